-- What the attribute set, the set of criteria, the line's word and the line writer mean, in terms of document 01's definitions.
pub mod Members
pub mod CriteriaSets
pub mod Names
pub mod Words
