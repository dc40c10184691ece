mod Cleanups
mod DeleteLaws
mod GetLaws
mod PutLaws
mod Sweeps
pub mod Taken
mod Walks
mod WorkLaws
