pub mod Session
pub mod Wanted
