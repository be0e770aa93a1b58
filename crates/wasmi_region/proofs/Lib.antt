pub mod Common
mod LawsLemmas
pub mod MemoryLemmas
mod TableLemmas
