pub mod Known
pub mod Words
