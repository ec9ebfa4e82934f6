pub mod Ahead
pub mod Bits
pub mod Resting
