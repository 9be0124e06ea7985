pub mod Line
pub mod Rest
