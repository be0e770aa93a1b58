pub mod Printing
pub mod ScriptRuns
pub mod Texts
pub mod Outcomes
pub mod Decided
