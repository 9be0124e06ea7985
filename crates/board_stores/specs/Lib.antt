pub mod Stores
pub mod Lengths
