-- What lent records, and the numbers that stand for them, mean.
pub mod Words
pub mod Numbers
pub mod Lent
pub mod Stores
