pub mod Firsts
pub mod Paths
pub mod Searches
pub mod Frees
