pub mod Writing
pub mod Reading
pub mod Reader
