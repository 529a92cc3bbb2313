pub mod Laws
pub mod Round
pub mod Tables
pub mod Words
