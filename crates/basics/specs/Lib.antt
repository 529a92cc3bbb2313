pub mod Domain
pub mod Lists
