pub mod PutExits
pub mod PutSides
pub mod TaskSides
