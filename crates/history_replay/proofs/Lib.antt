pub mod Chunks
pub mod Decoding
pub mod Steps
pub mod Replays
pub mod Replaying
