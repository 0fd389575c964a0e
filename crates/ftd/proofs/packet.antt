-- The laws of reading packets.
pub mod Verdicts
pub mod Ways
pub mod Laws
pub mod One
