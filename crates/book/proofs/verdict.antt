-- The proof of `BookRefusals`: codes and increments, prices counted once, the places of a side, the answers, the first
-- refused, a message's bytes.
pub mod Start
pub mod Once
pub mod Full
pub mod Answers
pub mod First
pub mod Bytes
pub mod Refusing
