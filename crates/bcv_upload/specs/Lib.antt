pub mod BlockText
pub mod Inside
pub mod State
pub mod UploadDescent
pub mod UploadPut
pub mod UploadWork
