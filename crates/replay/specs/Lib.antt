-- What the replay means in document 02's terms: Feeding, Reports, Whole and Resuming are the promises of `feed`, `finish`, `replay_words` and
-- `replay_piece`; Holding is what they rest on.
pub mod Running
pub mod Holding
pub mod Gathering
pub mod Framing
pub mod Reports
pub mod Feeding
pub mod Cutting
pub mod Whole
pub mod Resuming
