-- The laws of the receiving end's calls.
pub mod Shown
