-- Laws of tags and meanings.
pub mod TagLaws
pub mod MeaningLaws
