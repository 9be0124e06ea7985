pub mod Element
pub mod Working
