pub mod Evenings
pub mod Texts
pub mod Promised
