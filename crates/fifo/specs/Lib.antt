pub mod Samples
pub mod Flags
pub mod Queue
pub mod Earlier
pub mod Cases
