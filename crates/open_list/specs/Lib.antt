pub mod Entries
pub mod OpenList
pub mod inside
pub mod View
