pub mod Common
pub mod PrintingLemmas
pub mod OutcomesLemmas
pub mod LengthLemmas
pub mod DecidedLemmas
pub mod ScriptRunsLemmas
