-- Laws of the matcher's definitions, one file a topic.
pub mod Folded
pub mod Tails
pub mod Places
pub mod Spans
pub mod Packed
pub mod Standing
pub mod Costs
pub mod Stepping
pub mod Running
pub mod OneStep
pub mod Fronts
pub mod Chosen
