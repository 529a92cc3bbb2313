pub mod Series
pub mod Inner
pub mod InnerLent
