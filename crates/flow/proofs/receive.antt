-- Laws of Receive's parts.
pub mod Pieces
pub mod Rows
pub mod Back
pub mod Whole
