pub mod Common
pub mod WideningLemmas
mod GatherLemmas
mod HalfLemmas
mod EvenOddLemmas
mod ShiftLemmas
mod ReductionLemmas
