pub mod Walking
pub mod Pass
pub mod Accepting
pub mod Lines
pub mod Lengths
pub mod Solving
pub mod WayTexts
