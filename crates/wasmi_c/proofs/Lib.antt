pub mod Common
mod HeldBoxLemmas
mod InstructionLemmas
mod MachineLemmas
pub mod PlacementLemmas
pub mod SharedQuotaLemmas
mod TenantLemmas
