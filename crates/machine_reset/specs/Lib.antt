pub mod Reset
pub mod Kept
