pub mod Board
pub mod Level
pub mod Distances
pub mod Meaning
pub mod WrittenMoves
pub mod UsedCells
pub mod LevelText
pub mod laws
