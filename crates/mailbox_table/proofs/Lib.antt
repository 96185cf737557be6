-- Laws of the mailbox table. Those that crates above cite are public.
pub mod WordLaws
pub mod SharedLaws
pub mod BelowLaws
pub mod IndexLaws
pub mod ScanLaws
pub mod SeenLaws
pub mod HeldLaws
mod AnswerLaws
mod PackedLaws
mod LinkLaws
mod CopyLaws
mod LayoutLaws
mod PassLaws
mod FindLaws
mod FlagBits
mod RightLaws
mod KeptLaws
mod InferiorLaws
