pub mod Arithmetic
pub mod Elimination
pub mod Exact
pub mod Inner
pub mod InnerMatrix
