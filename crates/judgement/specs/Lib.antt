pub mod Judgement
pub mod Streaming
