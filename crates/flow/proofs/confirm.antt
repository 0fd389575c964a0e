-- The laws of Answer.
pub mod Rows
pub mod Whole
