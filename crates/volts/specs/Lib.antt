pub mod Table
pub mod Refused
pub mod Volts
pub mod Rounding
pub mod Exact
pub mod Host
pub mod Examples
