-- The laws of tags.
pub mod KnownTags
pub mod Walk
pub mod Turns
pub mod Listed
