pub mod Entry
pub mod Cache
pub mod Inside
