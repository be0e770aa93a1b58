pub mod Common
mod BufferLemmas
pub mod DenialLemmas
pub mod FrontLemmas
pub mod GrowthLemmas
pub mod MemoryLemmas
mod RangeLemmas
mod SegmentLemmas
pub mod TableLemmas
pub mod WriteLemmas
pub mod ValidityLemmas
