pub mod Signs
pub mod Order
pub mod Rounding
pub mod Sizes
pub mod Whole
pub mod Within
pub mod Helpers
pub mod Zeros
