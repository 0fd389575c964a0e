-- The receiving end's calls: the laws that their proofs share.
pub mod Lookups
pub mod Opening
pub mod Asking
