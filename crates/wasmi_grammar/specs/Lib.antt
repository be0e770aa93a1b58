pub mod Parts
pub mod Commands
pub mod Headers
pub mod Lines
pub mod Meanings
