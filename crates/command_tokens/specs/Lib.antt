-- What the tokens of a line mean in document 01.
pub mod Spans
pub mod Tokens
pub mod Values
