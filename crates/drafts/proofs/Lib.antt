pub mod Arena
pub mod Seeing
pub mod Turning
