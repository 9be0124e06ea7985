pub mod Machine
pub mod Hosts
pub mod Turn
pub mod Real
pub mod ByHand
pub mod Lent
