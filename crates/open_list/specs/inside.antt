-- How the heap lies in the lent numbers. Cited by private functions, and by the list's view (View.antt) for what the numbers
-- show.
pub mod Layout
pub mod Sifting
pub mod Changing
