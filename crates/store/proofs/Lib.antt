pub mod Insides
pub mod Readables
pub mod Guardings
pub mod Writes
pub mod Uses
