-- The laws of the book's calls.
pub mod Shown
