-- What the numbers of records tell; and what the loops that copy share.
pub mod WordLaws
pub mod WordsAlike
pub mod StoreLaws
pub mod Copies
mod Computed
