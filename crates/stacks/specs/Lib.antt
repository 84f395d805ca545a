pub mod Padded
pub mod Held
