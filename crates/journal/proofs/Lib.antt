pub mod Steps
pub mod Entries
pub mod Spelled
