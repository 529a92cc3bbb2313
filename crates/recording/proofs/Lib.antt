pub mod Recordings
pub mod Windows
pub mod Chunks
pub mod Parts
pub mod Runs
pub mod Histories
