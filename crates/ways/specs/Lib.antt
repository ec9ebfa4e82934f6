pub mod Notations
pub mod Judging
pub mod Writing
pub mod inside
