-- The laws of writing packets.
pub mod Puts
pub mod Laws
