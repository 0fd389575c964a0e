-- The laws of Numbers and Floats.
pub mod Powers
pub mod Stores
pub mod Laws
pub mod Integers
