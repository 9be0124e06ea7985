pub mod Parts
pub mod Loops
