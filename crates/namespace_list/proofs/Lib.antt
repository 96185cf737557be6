-- Laws of entries, of their classes, of check 2 from a place on, and of the line.
pub mod Classes
pub mod Entries
pub mod Passing
pub mod Line
