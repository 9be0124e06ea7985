pub mod Parts
pub mod Fresh
pub mod View
pub mod Working
pub mod Kept
pub mod Fits
