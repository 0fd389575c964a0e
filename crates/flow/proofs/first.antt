-- The first half over the world: exactly n were handed on, the first n published, after every list of calls and every
-- list of steps of a line.
pub mod Safe
pub mod Answer
pub mod Receive
pub mod Turned
pub mod Half
