pub mod Configuration
pub mod Inner
