-- The laws of the content check.
pub mod Verdicts
