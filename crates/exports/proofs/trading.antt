-- The laws of the calendar as numbers.
pub mod Laws
