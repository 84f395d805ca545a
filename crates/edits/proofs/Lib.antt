pub mod Weighing
pub mod Advancing
pub mod Rotating
pub mod Settling
