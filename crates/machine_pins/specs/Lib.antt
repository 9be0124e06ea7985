pub mod Pins
pub mod Kept
