-- What feeding a session means, in document 01's terms: Feeding is the promise of `feed` and `finish`, Cutting says that it does
-- not matter how the input is cut, and Carrying serves this crate alone.
pub mod Carrying
pub mod Feeding
pub mod Cutting
