pub mod Packing
pub mod Spelling
pub mod Judging
pub mod Taking
pub mod Writing
pub mod Forms
pub mod RoundTrip
