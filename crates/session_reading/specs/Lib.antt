pub mod Reading
pub mod Found
pub mod Whole
