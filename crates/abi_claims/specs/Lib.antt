pub mod WordCalls
pub mod Demand
pub mod Calibrate
