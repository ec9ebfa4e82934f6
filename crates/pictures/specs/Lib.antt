pub mod Cells
pub mod Pictures
pub mod laws
