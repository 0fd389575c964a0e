-- Laws of the reader.
pub mod Judging
pub mod Dids
