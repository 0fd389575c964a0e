-- The laws of a bufferful.
pub mod Sizes
pub mod Walks
pub mod Received
pub mod Published
pub mod OneByOne
pub mod Heard
