pub mod Rows
pub mod Solution
pub mod Inner
