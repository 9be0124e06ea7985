pub mod Advance
pub mod Advances
pub mod Strided
pub mod Lent
