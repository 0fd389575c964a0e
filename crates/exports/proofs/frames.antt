-- Frames as numbers: their laws.
pub mod Laws
