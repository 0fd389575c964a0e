-- The laws of the state's lines.
pub mod Turns
pub mod Names
