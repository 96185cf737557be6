-- Laws of edits. Those that crates above cite are public.
pub mod PlanLaws
mod PlaceLaws
mod InferiorLaws
mod FlagLaws
pub mod MapLaws
mod RunLaws
mod DecideLaws
mod ShiftLaws
pub mod FitLaws
pub mod AppliedLaws
pub mod StoredLaws
mod ResumLaws
pub mod MeantLaws
pub mod SumLaws
pub mod PlanSums
pub mod EditingLaws
