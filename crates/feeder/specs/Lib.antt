-- What the feeder's state and answers mean to the code.
pub mod Feed
pub mod Calls
