-- The definitions that the contracts cite.
pub mod Numbers
pub mod Items
pub mod Serving
pub mod Receiving
pub mod Keeping
pub mod Several
pub mod Boxes
pub mod Orders
pub mod Trading
pub mod Quotes
pub mod Frames
pub mod Laws
pub mod Refusals
pub mod Meaning
pub mod Driver
pub mod BoxDriver
