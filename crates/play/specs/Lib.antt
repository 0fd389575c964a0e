pub mod Types
pub mod Words
pub mod Calls
pub mod Lines
pub mod State
pub mod Several
pub mod Played
pub mod Input
