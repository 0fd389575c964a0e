-- The laws of an item's value.
pub mod Laws
pub mod Readings
pub mod Writings
pub mod Fields
