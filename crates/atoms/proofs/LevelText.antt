pub mod Writing
pub mod Forms
pub mod Rows
pub mod Taking
pub mod Lines
pub mod RoundTrip
