pub mod Texts
pub mod Numbers
pub mod Whole
pub mod Lines
pub mod Listing
pub mod Answers
pub mod Examples
