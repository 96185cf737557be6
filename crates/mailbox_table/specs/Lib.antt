-- What the code of the mailbox table means in terms of document 01's definitions. Link, Layout and Find serve this crate alone.
pub mod Words
pub mod Shared
pub mod Index
pub mod Seen
pub mod Below
pub mod Packed
pub mod Link
pub mod Layout
pub mod Find
