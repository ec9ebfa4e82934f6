pub mod Nodes
pub mod Steps
pub mod Calls
pub mod Promise
pub mod inside
pub mod laws
