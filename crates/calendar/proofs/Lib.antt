pub mod Some
pub mod Refusals
