pub mod Grafts
pub mod Drafted
