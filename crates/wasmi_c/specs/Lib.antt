-- What the calls for C take and give.
pub mod FuelCalls
pub mod HeldBox
pub mod Host
pub mod Instruction
pub mod Lending
pub mod Machine
pub mod MemoryCalls
pub mod Numbers
pub mod Placement
pub mod Pool
pub mod ReleasedNumbers
pub mod Script
pub mod SharedQuota
pub mod Status
pub mod TableCalls
pub mod Types
