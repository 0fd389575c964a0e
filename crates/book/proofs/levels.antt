-- Laws of a side's levels.
pub mod Shifts
pub mod Search
pub mod Put
