pub mod Counts
pub mod Effects
pub mod Went
pub mod Shown
pub mod OneEvent
pub mod Sums
