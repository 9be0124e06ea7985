pub mod OneEvent
pub mod Shown
pub mod Sums
pub mod Went
