pub mod Quotes
pub mod States
pub mod Neighbours
pub mod Inner
