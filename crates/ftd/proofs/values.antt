-- The laws of values by type.
pub mod Checks
pub mod Laws
