pub mod Requests
pub mod Registers
pub mod Bytes
pub mod Working
