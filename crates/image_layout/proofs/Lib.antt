pub mod Parts
pub mod Headers
