pub mod Numbers
pub mod Bodies
pub mod Scaling
pub mod Headed
pub mod Hexes
pub mod Tellings
