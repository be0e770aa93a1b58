mod TenantsLemmas
pub mod TenantLemmas
pub mod PoolLemmas
pub mod LawsLemmas
pub mod IsolationLemmas
