pub mod Output
pub mod Nearest
pub mod Plain
pub mod Examples
