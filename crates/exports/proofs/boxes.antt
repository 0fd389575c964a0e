-- The box as numbers: what the proofs of its calls share, and its laws.
pub mod Calls
pub mod Laws
