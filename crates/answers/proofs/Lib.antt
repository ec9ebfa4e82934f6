pub mod Ending
pub mod Telling
pub mod AnsweringAll
