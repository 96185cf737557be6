-- Laws of the conversation, one file a topic; each file rests on files before it.
pub mod TalkKeys
pub mod TalkCases
pub mod CutLaws
pub mod ThroughLaws
pub mod TagLaws
pub mod ReplyLaws
pub mod OwnLaws
pub mod ClosingLaws
pub mod LineLaws
pub mod WordLaws
pub mod SeenLaws
pub mod KeepsLaws
pub mod LogoutLaws
