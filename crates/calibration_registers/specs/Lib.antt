pub mod Registers
pub mod Working
pub mod Laws
