pub mod Number
pub mod NumberProofs
pub mod RawVal
