pub mod Largest
pub mod Keys
pub mod Buckets
pub mod Adding
pub mod Walking
pub mod Views
