pub mod Invariant
pub mod Theorems
