-- Proofs that the laws of the traits cite: nobody has to believe them.
pub mod Sums
pub mod Parting
pub mod Standing
pub mod Moving
pub mod Lawful
