pub mod Usable
pub mod Within
pub mod Exchanged
pub mod Checked
pub mod Numbered
pub mod Printed
