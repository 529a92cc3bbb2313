pub mod Walks
pub mod Sums
pub mod Readings
pub mod Answers
