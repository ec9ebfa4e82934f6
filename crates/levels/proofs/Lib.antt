pub mod Reading
pub mod Readable
pub mod BookSearch
