pub mod Commits
pub mod Entries
pub mod Folded
pub mod Fronts
pub mod NoteSizes
pub mod Pages
pub mod Placing
pub mod ReadNotes
pub mod Uploads
pub mod KeptSizes
mod WellKept
pub mod Refolded
pub mod KeptGrowth
