-- Proofs that the laws of the traits cite: nobody has to believe them.
pub mod Equal
