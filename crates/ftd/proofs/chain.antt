-- The laws of a message's packets.
pub mod Cuts
pub mod Pieces
pub mod Places
pub mod Singles
pub mod Rest
pub mod Sizes
pub mod Laws
pub mod Tagging
