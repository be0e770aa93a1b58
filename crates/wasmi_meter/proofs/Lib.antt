pub mod AttemptLemmas
pub mod CappedLemmas
