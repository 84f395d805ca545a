pub mod Making
pub mod Exacts
pub mod Promised
