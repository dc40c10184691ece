mod Bytes
pub mod Append
mod Added
mod Head
mod Reader
pub mod Unique
mod Loading
mod Empty
mod LoadParts
mod Appended
mod Window
mod Laid
mod Restarted
mod Replaced
