-- Named places in the code: a name read letter by letter, its place, and what is brought back.
pub mod Letters
pub mod Places
pub mod Back
