pub mod KindsWork
mod CreateLaws
mod KindPuts
pub mod Owned
mod PutLaws
mod WorkLaws
