pub mod Runs
pub mod Limiters
pub mod Chains
