pub mod DacBusySet
pub mod Sameness
pub mod DacBusy
pub mod Dividers
pub mod EdgeLaws
pub mod NoEdge
pub mod Same
pub mod SameLaws
