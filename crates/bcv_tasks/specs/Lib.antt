pub mod KindsWork
pub mod State
pub mod TaskPut
pub mod TaskWork
