-- The laws of the player.
pub mod Shown
pub mod Plays
pub mod Room
