-- Laws of feeding. Cut is what the court reads: the answers do not depend on how the input is cut.
pub mod LineLaws
pub mod Cut
mod CarryLaws
pub mod FeedLaws
