pub mod Examples
pub mod Rewinds
