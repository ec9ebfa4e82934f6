pub mod Contents
pub mod Calls
pub mod inside
pub mod View
