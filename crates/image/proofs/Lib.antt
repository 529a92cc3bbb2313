pub mod Judged
pub mod Ways
pub mod Round
pub mod Written
