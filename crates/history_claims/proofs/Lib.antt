pub mod Rules
pub mod Claims
pub mod Evening
pub mod NeverConverges
pub mod Printed
