-- The laws of sessions.
pub mod Common
pub mod One
