-- Laws of what a field says.
pub mod Reading
pub mod Laws
