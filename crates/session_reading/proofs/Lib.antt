pub mod Scanning
pub mod Usual
