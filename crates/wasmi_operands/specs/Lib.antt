pub mod LineWords
pub mod Names
