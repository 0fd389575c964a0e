-- The laws of holidays and trading days.
pub mod Laws
pub mod Near
