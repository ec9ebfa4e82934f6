-- How the parts of a search fit together, and what they do. Cited by private functions alone: no promise to callers
-- rests on reading it.
pub mod Memory
pub mod Parts
