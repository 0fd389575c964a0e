-- The laws of a content in parts.
pub mod Laws
pub mod Three
pub mod Across
