pub mod Text
pub mod Reading
pub mod Written
pub mod Inner
