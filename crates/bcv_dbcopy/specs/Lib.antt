pub mod State
pub mod TaskDescent
pub mod TaskPut
pub mod TaskWork
