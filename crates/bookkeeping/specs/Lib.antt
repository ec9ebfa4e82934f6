pub mod Answers
pub mod Streaming
pub mod inside
