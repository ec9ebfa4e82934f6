-- What the parts of filling and testing tell. Cited by private functions alone: no promise to callers rests on it.
pub mod Blocks
pub mod Bounds
pub mod Filling
pub mod Walking
