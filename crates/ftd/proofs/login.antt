-- The laws of login packets.
pub mod Laws
pub mod Writes
