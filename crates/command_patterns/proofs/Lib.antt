-- Laws of the patterns of a command.
pub mod Filling
pub mod Counting
pub mod Packed
pub mod FewLaws
