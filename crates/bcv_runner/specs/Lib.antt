pub mod Endings
pub mod Operations
pub mod ReadAsks
pub mod CommandAsks
pub mod CommandTalks
pub mod MachineRuns
pub mod CommandRuns
