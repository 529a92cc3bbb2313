pub mod Signal
pub mod Claims
