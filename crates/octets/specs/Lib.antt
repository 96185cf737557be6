-- What runs of bytes, sets of named members and refusals mean to the code.
pub mod Sets
pub mod Put
pub mod Escape
pub mod Refusals
pub mod Written
