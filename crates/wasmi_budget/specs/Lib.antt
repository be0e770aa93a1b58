pub mod Tenants
pub mod Pool
pub mod Laws
