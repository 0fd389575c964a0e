-- The laws of the serving end's calls.
pub mod Shown
