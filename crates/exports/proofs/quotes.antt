-- The book as numbers: its answers, and its laws.
pub mod Answers
pub mod Laws
