-- Laws of the attribute set, of the set of criteria, of the names' places and of the line writer.
pub mod Members
pub mod CriteriaSets
pub mod Names
pub mod Writing
