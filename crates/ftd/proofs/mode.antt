-- The laws of the mode of a message type.
pub mod Ranges
