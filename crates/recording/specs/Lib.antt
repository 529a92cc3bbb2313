pub mod Recording
pub mod Window
pub mod Observe
pub mod Inner
