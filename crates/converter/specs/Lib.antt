pub mod Channels
pub mod Registers
pub mod Codes
pub mod Bytes
pub mod Working
pub mod Begins
pub mod Order
pub mod Cases
