pub mod NumbersLemmas
pub mod ReadingLemmas
pub mod FunctionTypeOrderLemmas
