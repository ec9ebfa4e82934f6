pub mod Below
pub mod Atoms
pub mod Molecules
pub mod GoalPlaces
