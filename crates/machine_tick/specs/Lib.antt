pub mod Tick
pub mod Kept
pub mod InPlace
