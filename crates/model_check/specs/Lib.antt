pub mod Check
pub mod InnerTable
