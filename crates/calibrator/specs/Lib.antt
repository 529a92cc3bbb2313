pub mod Record
pub mod Observe
pub mod Inner
