pub mod Zeros
pub mod Queue
