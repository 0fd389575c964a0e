-- Laws that several functions' proofs use.
pub mod Filled
pub mod Laws
pub mod Refusals
pub mod Meaning
pub mod Driver
pub mod BoxDriver
