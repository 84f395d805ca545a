pub mod Lifts
pub mod Theorems
pub mod Ways
