-- A summary as numbers, one for each row.
pub mod Counts
