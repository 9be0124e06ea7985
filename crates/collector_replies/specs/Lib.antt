pub mod Reply
pub mod Channels
pub mod Joined
