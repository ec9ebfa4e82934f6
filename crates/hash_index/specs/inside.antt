-- How the chains lie in the lent numbers. Cited by private functions, and by the index as its view of the numbers
-- (`index_of`).
pub mod Chains
