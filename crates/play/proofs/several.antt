-- The laws of a bufferful.
pub mod Lines
pub mod Received
pub mod Shown
