-- The laws of fields.
pub mod Laws
pub mod Shape
pub mod Turns
pub mod Listed
