pub mod Committing
pub mod Bounds
pub mod Fallings
