-- The laws of checkpoints as numbers.
pub mod Laws
