-- The log of the serving end: its entries written, an entry's head read, and a turn of the walk.
pub mod Entries
pub mod Heads
pub mod Walked
