mod Held
mod Compacting
mod Trying
mod Adding
mod LogNoted
pub mod LoadedLog
