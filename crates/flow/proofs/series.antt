-- Series in a list, read by place.
pub mod Places
pub mod Rule
pub mod Filled
pub mod Positions
