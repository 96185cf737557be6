-- Laws of the server: what it relies on of its inputs, the refusals in order, and edits.
mod Inputs
mod Order
pub mod ReadLaws
mod EditLaws
mod EditedLaws
pub mod AnswerLaws
mod EditAnswers
