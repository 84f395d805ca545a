pub mod Walks
pub mod Outcomes
