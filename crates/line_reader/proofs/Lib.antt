-- Laws of the reader's steps; the round trip with the line writer.
mod Skipping
mod Choosing
mod Naming
mod Reading
pub mod RoundTrip
