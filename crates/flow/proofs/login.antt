-- Laws of Login's parts.
pub mod Checks
pub mod Answer
pub mod Rows
pub mod Whole
