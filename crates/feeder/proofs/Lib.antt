-- Laws of the feeder.
pub mod FeedLaws
pub mod FeedBytes
pub mod Cuts
