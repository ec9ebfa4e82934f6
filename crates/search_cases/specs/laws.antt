-- Proofs that the laws of the traits cite. Nobody has to believe them.
pub mod Lawful
