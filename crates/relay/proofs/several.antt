-- The laws of a bufferful at the box.
pub mod Turns
