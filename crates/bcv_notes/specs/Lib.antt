pub mod KeptBy
pub mod NoteGrammar
pub mod Reading
pub mod KeptNotes
