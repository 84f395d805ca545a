pub mod Writings
pub mod Spellings
pub mod Layings
pub mod Frames
pub mod Hangings
pub mod Resizings
pub mod Waitings
