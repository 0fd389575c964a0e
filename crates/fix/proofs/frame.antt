-- Laws of the frame.
pub mod Puts
pub mod Words
pub mod Outlines
pub mod Laid
