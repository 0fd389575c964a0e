-- Layer "the order of two ends": two lists side by side; what is read off a log; and that this is what was published.
pub mod Lists
pub mod Bytes
pub mod Walked
pub mod Logged
pub mod Given
pub mod Read
pub mod Made
