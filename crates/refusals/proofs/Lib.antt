pub mod Cases
pub mod Numbers
pub mod Refusals
