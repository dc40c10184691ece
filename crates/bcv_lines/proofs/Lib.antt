pub mod LineLists
pub mod Newlines
pub mod Reader
