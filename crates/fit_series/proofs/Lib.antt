pub mod Vectors
pub mod Products
pub mod Rounds
pub mod Lent
pub mod MoreRounds
pub mod NeverConverges
