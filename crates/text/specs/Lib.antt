pub mod Numbers
pub mod Lines
pub mod Reading
pub mod Pieces
pub mod Forms
pub mod Pens
pub mod LevelReading
