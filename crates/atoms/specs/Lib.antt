pub mod Board
pub mod Level
pub mod Moves
pub mod Making
pub mod Meaning
pub mod WrittenMoves
pub mod LevelText
pub mod laws
