pub mod Tally
pub mod Made
pub mod Adding
pub mod TickLaws
pub mod Ticks
pub mod Runs
