pub mod Runs
pub mod Places
pub mod Reserved
pub mod ReservedPools
