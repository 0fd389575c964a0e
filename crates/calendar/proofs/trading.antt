-- The laws of the calendar.
pub mod Laws
pub mod Times
pub mod Taken
pub mod Leaving
