-- The laws of printed lines.
pub mod Turns
