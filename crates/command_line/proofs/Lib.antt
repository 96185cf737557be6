-- Laws of the reader of commands.
pub mod Members
pub mod Listing
pub mod Returning
pub mod Refusing
pub mod Judging
pub mod Grammar
pub mod Lsub
pub mod Edits
pub mod Wording
pub mod Lines
pub mod Packed
