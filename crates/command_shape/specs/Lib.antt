-- What the machine of check 3 does with a byte, and which state of document 02's feeder it stands for.
pub mod Machine
pub mod Shaping
