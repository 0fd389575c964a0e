-- Laws of the sums.
pub mod Limits
pub mod Halves
pub mod Rounding
pub mod MeanLaws
pub mod Prices
