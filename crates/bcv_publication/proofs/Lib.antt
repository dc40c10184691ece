pub mod PutExits
mod PutMade
pub mod TaskSides
