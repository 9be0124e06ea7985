pub mod Place
pub mod Effects
pub mod Bytes
pub mod Rows
pub mod Registers
pub mod Kept
