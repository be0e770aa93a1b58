pub mod Access
pub mod Value
pub mod Trap
pub mod FunctionType
pub mod Reading
pub mod FunctionTypeProofs
pub mod Numbers
