-- What the code of the LIST and LSUB answers means beside document 01's definitions.
pub mod Sets
pub mod Prefixes
pub mod Attributes
pub mod Marks
pub mod Ready
pub mod Shown
