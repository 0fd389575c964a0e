-- Laws of the writer.
pub mod Answers
