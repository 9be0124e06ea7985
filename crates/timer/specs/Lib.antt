pub mod Timer
pub mod Edges
pub mod Still
pub mod Working
pub mod Kept
pub mod Bus
pub mod BusKept
pub mod BusEdges
