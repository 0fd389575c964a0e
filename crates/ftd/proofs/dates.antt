-- The laws of Dates.
pub mod Verdicts
pub mod Laws
