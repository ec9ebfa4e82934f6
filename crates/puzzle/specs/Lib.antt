pub mod Game
pub mod Meaning
pub mod Consistent
pub mod Keys
