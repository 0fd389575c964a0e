pub mod agreement
pub mod verdict
pub mod Refusals
pub mod Examples
