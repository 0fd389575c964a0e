-- The laws of the calendar's calls.
pub mod Shown
