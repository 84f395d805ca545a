pub mod Grown
pub mod Drafts
