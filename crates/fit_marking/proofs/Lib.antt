pub mod Below
pub mod Decided
pub mod Mirror
pub mod Rows
pub mod Turns
pub mod Marks
pub mod Computed
