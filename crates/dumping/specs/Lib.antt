pub mod Marks
pub mod Nodes
pub mod Dumps
