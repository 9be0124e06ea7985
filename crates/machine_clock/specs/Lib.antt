pub mod Clock
pub mod Kept
