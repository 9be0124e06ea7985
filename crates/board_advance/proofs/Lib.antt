pub mod Ends
pub mod Advances
pub mod Strided
