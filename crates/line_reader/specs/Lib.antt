-- What the line reader answers, and what its steps find, in terms of document 01's definitions.
pub mod Lines
pub mod Parts
