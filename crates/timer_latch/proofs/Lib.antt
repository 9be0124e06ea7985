pub mod Latch
pub mod LatchLaws
