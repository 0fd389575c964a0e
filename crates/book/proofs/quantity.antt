-- Laws of quantities.
pub mod Increments
