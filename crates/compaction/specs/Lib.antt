-- What moving names together leaves, as the code does it.
pub mod Gathered
pub mod Moves
pub mod Result
