-- The bench table, computed; and what computed tests say.
pub mod Opened
pub mod Bench
pub mod Rows
pub mod Tests
