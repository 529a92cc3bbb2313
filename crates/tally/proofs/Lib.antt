pub mod Sums
pub mod Step
pub mod Touched
pub mod Balance
pub mod Overs
pub mod Lent
