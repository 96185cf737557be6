-- What the code's patterns mean, and the words of the return options.
pub mod Patterns
pub mod Words
