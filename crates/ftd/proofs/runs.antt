-- The laws of runs of entries.
pub mod Laws
pub mod Heads
pub mod Joined
pub mod Turns
