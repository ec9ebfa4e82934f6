pub mod Blocking
pub mod Sliding
pub mod Fits
pub mod Roll
pub mod Making
pub mod LevelText
