pub mod SpoiledFlags
pub mod Spoils
pub mod Unfit
