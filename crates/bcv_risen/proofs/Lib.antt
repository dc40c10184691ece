mod SeenFits
mod Unnamed
mod CameUp
mod ComesAgain
pub mod StaysDown
mod NamedClient
