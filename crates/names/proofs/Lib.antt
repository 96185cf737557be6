-- Laws of the shape of a name, and of INBOX.
pub mod NameShape
pub mod Inbox
