pub mod Mirrors
pub mod Inner
