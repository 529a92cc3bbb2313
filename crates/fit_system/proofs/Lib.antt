pub mod Filling
pub mod Solving
pub mod Binary64
pub mod MoreRounds
