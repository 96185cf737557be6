-- Laws of the tokens of a line.
pub mod Binds
pub mod Runs
pub mod Quoting
pub mod Bytes
pub mod Numbers
pub mod Nesting
pub mod Parted
pub mod Cuts
pub mod Plain
