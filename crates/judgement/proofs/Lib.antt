pub mod Exactly
pub mod Lengths
pub mod Reporting
