pub mod Refused
pub mod Scans
pub mod Longest
