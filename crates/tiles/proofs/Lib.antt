pub mod Board
pub mod Walks
pub mod Empty
pub mod Filling
pub mod LevelText
