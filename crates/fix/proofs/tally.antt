-- The laws of the tally.
pub mod Turns
pub mod Folds
pub mod Ranges
pub mod Links
