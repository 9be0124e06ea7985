pub mod Plain
pub mod Feeding
