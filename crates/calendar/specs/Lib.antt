pub mod Types
pub mod Days
pub mod Calendar
pub mod Refusals
