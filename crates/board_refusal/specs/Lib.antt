pub mod Working
pub mod Refusals
