pub mod WideningProofs
pub mod WideningTable
