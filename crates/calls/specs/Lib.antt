pub mod Does
pub mod Exacts
