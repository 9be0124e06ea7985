pub mod Happenings
pub mod Latch
pub mod LatchLaws
