pub mod Commits
pub mod Theorems
