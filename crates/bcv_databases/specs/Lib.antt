pub mod Catalog
pub mod Sound
pub mod Changes
pub mod Table
pub mod NamedLists
pub mod Slots
pub mod LoadedLaw
