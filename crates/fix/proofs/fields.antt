-- The laws of fields.
pub mod Fronts
pub mod Cuts
pub mod Turns
