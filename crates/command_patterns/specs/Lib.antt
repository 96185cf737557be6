-- What the patterns of a command mean in document 01.
pub mod Places
pub mod Canonical
