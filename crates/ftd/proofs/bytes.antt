-- The laws of bytes and numbers in them.
pub mod Put
pub mod Numbers
