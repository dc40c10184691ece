pub mod Causes
pub mod CommandForms
pub mod Commanded
pub mod MadeRuns
pub mod PlayedOn
pub mod Played
pub mod Stepping
pub mod Writer
