pub mod LogParts
pub mod LogLoads
pub mod Compaction
pub mod Noting
pub mod AddedNote
