pub mod Models
pub mod Evening
