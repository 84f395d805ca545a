pub mod Ends
pub mod Hanging
pub mod Advancing
