-- The proof of `BookAgreement`: prices, the levels of a side, an event, a list of calls.
pub mod Prices
pub mod Ranked
pub mod Events
pub mod Calls
pub mod Shown
