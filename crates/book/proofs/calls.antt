-- Laws of the calls.
pub mod Steps
pub mod Fields
