-- What holds of a search all along. Cited by private functions and by proofs alone: no promise rests on reading it.
pub mod Invariants
