-- What an edit of an index comes to, and what it leaves.
pub mod Plans
pub mod Runs
pub mod Applied
pub mod Resums
pub mod Summed
pub mod Stored
pub mod Editing
