-- What the contracts of the matcher cite beside document 01's definitions.
pub mod Folded
pub mod Steps
pub mod Packed
pub mod Chosen
