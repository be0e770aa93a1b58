pub mod Global
pub mod Typed
