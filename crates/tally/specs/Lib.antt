pub mod Totals
pub mod Entries
pub mod Lent
pub mod Events
pub mod Limits
pub mod Rules
pub mod Balance
pub mod Inner
