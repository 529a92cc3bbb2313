pub mod InWords
pub mod Demand
pub mod Calibrate
pub mod Instance
