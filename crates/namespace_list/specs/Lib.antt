-- What the code's entries mean, and the line that shows a namespace list.
pub mod Entries
pub mod Line
