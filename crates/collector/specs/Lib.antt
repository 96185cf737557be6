-- What the collector means in terms of document 01's definitions. Result is its promise; the others serve this crate alone.
pub mod Result
pub mod Options
pub mod Held
pub mod Rooms
pub mod Names
pub mod Taking
pub mod Walking
pub mod Ends
