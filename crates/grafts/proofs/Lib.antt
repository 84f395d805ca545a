pub mod Asking
pub mod Ending
pub mod Exits
pub mod Keeping
pub mod Replacing
