-- The laws of the items of a content's fields.
pub mod Walk
