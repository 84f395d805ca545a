pub mod Placings
pub mod Theorems
