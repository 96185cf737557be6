-- What the code of lawful names needs beside document 01's definitions.
pub mod Slashes
pub mod Inbox
