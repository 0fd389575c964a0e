-- The laws of calls.
pub mod Rows
pub mod Limits
pub mod Verbs
