-- What the parts of the answer tell. Cited by private functions alone: no promise to callers rests on reading it.
pub mod Solving
pub mod Replies
