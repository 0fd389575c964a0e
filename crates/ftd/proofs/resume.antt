-- The laws of the start field.
pub mod Behind
pub mod Content
