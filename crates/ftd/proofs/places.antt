-- The laws of an item by place.
pub mod Walk
