-- Laws of sets, of tests and comparisons over a run of bytes, of clearing, of quoted text, and of writes.
pub mod Sets
pub mod Every
pub mod Same
pub mod Clearing
pub mod Escaping
pub mod Puts
pub mod Writing
