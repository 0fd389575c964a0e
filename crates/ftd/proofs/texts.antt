-- The laws of Strings.
pub mod Laws
