-- Proofs that the laws of the traits cite: nobody has to believe them.
pub mod Levels
pub mod Starting
pub mod Opening
pub mod Finding
pub mod Standing
pub mod Spelling
pub mod Equal
pub mod Lawful
pub mod Readable
