-- The laws of words.
pub mod Turns
pub mod Arguments
pub mod Parts
