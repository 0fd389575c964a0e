-- The serving end's calls: the laws that their proofs share.
pub mod Lookups
pub mod Opening
pub mod Publishing
pub mod Sends
