pub mod Shapes
pub mod Worked
