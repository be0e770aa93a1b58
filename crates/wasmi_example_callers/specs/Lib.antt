pub mod Host
pub mod Interpreter
