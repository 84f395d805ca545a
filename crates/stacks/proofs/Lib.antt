pub mod Blanks
pub mod Alike
