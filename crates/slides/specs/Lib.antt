pub mod Sets
pub mod Slides
