pub mod Control
pub mod Modes
pub mod Bits
