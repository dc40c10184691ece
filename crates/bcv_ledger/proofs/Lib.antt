mod LedgerNoted
mod NotesEnded
mod Begun
mod KnownAt
mod Resolved
mod Reasons
mod LocalEnds
pub mod LocalLaws
mod LocalSteps
pub mod TableLaws
pub mod FitsLedger
mod Named
mod ResolveLaws
mod LedgerLoaded
