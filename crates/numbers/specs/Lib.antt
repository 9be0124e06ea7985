pub mod Outcomes
pub mod Boards
pub mod Turning
pub mod Typed
pub mod TypedLaws
pub mod TypedFresh
pub mod Decoded
pub mod Lengths
