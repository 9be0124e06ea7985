pub mod Arms
pub mod Both
pub mod Adding
pub mod Runs
pub mod Ticks
