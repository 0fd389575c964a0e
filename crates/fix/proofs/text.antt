-- Laws of texts.
pub mod Turns
