-- What the reader of command lines answers, in the terms of document 01.
pub mod Spans
pub mod OptionSets
pub mod Words
pub mod Commands
