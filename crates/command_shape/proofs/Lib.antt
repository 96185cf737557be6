-- Laws of the machine of check 3.
pub mod Tails
pub mod Steps
pub mod Shapes
