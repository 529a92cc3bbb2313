pub mod Fit
pub mod Models
pub mod Inner
pub mod InnerInput
