pub mod Reaching
pub mod Consistent
