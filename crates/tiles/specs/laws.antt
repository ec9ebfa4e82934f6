-- Proofs that the laws of the traits cite: nobody has to believe them.
pub mod Cells
pub mod Sliding
pub mod Moving
pub mod Lawful
pub mod Readable
