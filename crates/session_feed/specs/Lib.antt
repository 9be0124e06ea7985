pub mod Feeding
pub mod Pieces
pub mod Lines
