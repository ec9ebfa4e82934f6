pub mod Moves
pub mod Writes
pub mod Sifts
pub mod Lists
pub mod Room
pub mod Entering
pub mod Changes
pub mod Firsts
