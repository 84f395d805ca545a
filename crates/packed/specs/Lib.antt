pub mod Layout
pub mod Rooms
pub mod Meanings
