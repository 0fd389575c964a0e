-- The laws of prices as text.
pub mod Lines
