pub mod Stepping
pub mod Walking
pub mod Bounds
