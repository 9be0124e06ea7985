pub mod Ends
pub mod Laws
