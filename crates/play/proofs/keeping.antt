-- The laws of the named places' calls.
pub mod Shown
