pub mod Tests
pub mod Lists
pub mod Stores
pub mod Anys
