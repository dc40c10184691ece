pub mod AnswerParts
pub mod FieldReaders
pub mod MessageReaders
pub mod Parsing
pub mod Readers
pub mod Writers
