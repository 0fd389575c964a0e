-- The laws of real dates.
pub mod Laws
