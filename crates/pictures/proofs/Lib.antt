pub mod Drawn
pub mod Rows
pub mod Shapes
