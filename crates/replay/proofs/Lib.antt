-- Laws of the replay. Cut is what the court reads: the verdict and the table do not depend on how the log is cut.
pub mod HoldLaws
mod GatherLaws
mod RunLaws
mod FrameLaws
pub mod FinishLaws
pub mod FeedLaws
pub mod WholeLaws
pub mod Cut
pub mod ResumeLaws
pub mod PieceSpare
