pub mod Command
pub mod Ends
pub mod Rest
pub mod Line
