pub mod Control
pub mod Pulses
