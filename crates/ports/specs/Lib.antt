pub mod Ports
pub mod Working
pub mod Laws
