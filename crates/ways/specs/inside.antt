-- What the code's walk and reader stand for. Cited by private functions alone: no promise to callers rests on reading it.
pub mod Walking
pub mod Passing
