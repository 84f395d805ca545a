pub mod Pieces
pub mod Nodes
pub mod Rounds
pub mod Places
pub mod Rows
pub mod Sames
