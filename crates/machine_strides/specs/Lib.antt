pub mod Lines
pub mod Bursts
pub mod Strides
pub mod Cascades
pub mod Leaps
pub mod Settled
pub mod Kept
pub mod Onward
