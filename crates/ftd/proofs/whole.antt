-- The laws of Chars, Words and Ints.
pub mod Laws
