-- What the parts of an answer are. Cited by private functions alone: no promise to callers rests on reading it.
pub mod Replies
