pub mod Causes
pub mod CommandFaults
pub mod FaultCounts
pub mod FileForms
pub mod ReplyLines
pub mod TalkJoins
