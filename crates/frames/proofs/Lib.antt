-- Laws of digits, of runs written piece by piece, of frames, of gathered characters and of stored bytes.
pub mod DigitLaws
pub mod Pieces
pub mod FrameLaws
pub mod GatherLaws
pub mod StoreLaws
pub mod LogLaws
