pub mod Panel
pub mod Script
