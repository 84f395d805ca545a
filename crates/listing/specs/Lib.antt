pub mod Calls
pub mod Tallies
pub mod Lines
pub mod Listings
