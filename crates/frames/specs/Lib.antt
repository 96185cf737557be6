-- What the frames' characters and the stored bytes mean to the code.
pub mod Hexadecimal
pub mod Reading
pub mod Gathering
pub mod Storing
pub mod Logged
