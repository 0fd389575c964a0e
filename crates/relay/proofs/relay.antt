-- The box's calls: the laws that their proofs share.
pub mod Towards
pub mod AtSeats
pub mod Handing
