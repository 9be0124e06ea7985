pub mod Exact
pub mod Refused
