-- What the C forms of the answers mean.
pub mod Outcomes
pub mod Feeding
pub mod Replays
