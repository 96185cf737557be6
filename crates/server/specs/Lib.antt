-- What the code of the server means beside document 01's definitions.
pub mod Replies
pub mod Answering
pub mod Edits
