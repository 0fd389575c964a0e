-- Layer "named places": what keeping and a return come to, and demand 3 with them. A return is right because keeping
-- copies state and histories together, and what is right for a source stays so when more is published.
pub mod Names
pub mod Lookups
pub mod Restored
pub mod Linked
pub mod Kept
pub mod First
pub mod Second
pub mod Effective
pub mod Numbers
