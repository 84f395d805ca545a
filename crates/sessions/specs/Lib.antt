pub mod Faults
pub mod Ways
pub mod Writings
pub mod Waiting
pub mod Lookups
pub mod Making
pub mod Laws
