pub mod Opened
pub mod Examples
pub mod Rewinds
