-- The order as numbers: its laws.
pub mod Laws
