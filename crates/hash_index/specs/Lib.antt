pub mod Index
pub mod inside
