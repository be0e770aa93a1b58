pub mod Limiter
pub mod Meter
pub mod Attempt
pub mod Capped
pub mod CappedProofs
pub mod AnswerList
pub mod AnyLimiter
pub mod Texts
