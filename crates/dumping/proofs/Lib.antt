pub mod Sessions
pub mod Cells
