-- The second half over the world: since a login, its answer and then start, start + 1, .. are sent, each is taken when
-- it is delivered, and they reach the published count.
pub mod SentFrom
pub mod SentSince
pub mod Sending
pub mod Ready
pub mod Followed
pub mod Taking
pub mod Due
pub mod Half
