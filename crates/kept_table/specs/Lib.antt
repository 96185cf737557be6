-- What is kept of a session between two frames, and what a command leaves of it, in document 01's terms: Kept is what the promises speak of,
-- Commanding has what `obey` promises, and Laying serves this crate alone.
pub mod Kept
pub mod Commanding
pub mod Laying
