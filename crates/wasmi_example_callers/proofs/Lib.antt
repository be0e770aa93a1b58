pub mod HostLemmas
pub mod InterpreterLemmas
