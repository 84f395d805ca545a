pub mod Orders
pub mod Bytes
pub mod Wholes
pub mod Decimals
pub mod Texts
pub mod Meanings
pub mod Lexes
