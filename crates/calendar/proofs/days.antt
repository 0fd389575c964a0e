-- The laws of days and dates.
pub mod Counting
pub mod Found
pub mod Laws
pub mod Back
