-- Laws of bytes, of the packed patterns and their text, of the option words, and of the writer's refusals.
pub mod Bytes
pub mod PackedPatterns
pub mod OptionWords
pub mod PatternTexts
pub mod Refusals
