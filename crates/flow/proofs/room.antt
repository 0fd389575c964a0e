-- The room of the log that the series share: the laws that the proofs share.
pub mod Sums
pub mod Places
