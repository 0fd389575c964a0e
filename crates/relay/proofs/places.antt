-- Laws of the seats' numbers.
pub mod Written
