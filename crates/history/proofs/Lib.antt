pub mod Holds
pub mod Restored
pub mod Claim
pub mod Returns
pub mod Demand
pub mod LastKept
