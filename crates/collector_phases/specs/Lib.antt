pub mod Phases
pub mod Fit
pub mod Accesses
