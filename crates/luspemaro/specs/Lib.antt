-- What the program promises of the bytes that it reads: Serving in document 01's terms, Calling of the calls of the system.
pub mod Calling
pub mod Serving
