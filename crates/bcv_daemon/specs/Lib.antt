pub mod Connections
pub mod Responses
pub mod MachineRuns
pub mod Served
pub mod Sessions
