pub mod Nodes
pub mod Faults
pub mod Cells
pub mod Fits
pub mod Meanings
