pub mod Searching
pub mod Gathering
