-- Laws of the collector, one file a topic; each file rests on files before it.
mod OptionLaws
mod FindLaws
mod LineLaws
mod PackLaws
mod TakeLaws
mod AnswerLaws
mod AskLaws
mod GrowLaws
mod QueueLaws
mod HeldLaws
mod WalkLaws
pub mod WholeLaws
