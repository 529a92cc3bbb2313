pub mod Below
pub mod Marks
pub mod Inner
pub mod Mirror
pub mod Tables
