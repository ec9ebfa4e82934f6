pub mod Graph
pub mod laws
