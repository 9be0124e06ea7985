pub mod Invariant
pub mod Kept
pub mod Looked
pub mod Polls
pub mod ReadsLaws
pub mod Theorem
pub mod Worlds
