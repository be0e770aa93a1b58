-- The parts about a machine behind a handle, which are the files in `Machine/`.
pub mod Caps
pub mod NewMachines
pub mod CallStructs
pub mod Replies
pub mod Calls
