pub mod Lengths
pub mod Ways
pub mod Step
pub mod Memories
