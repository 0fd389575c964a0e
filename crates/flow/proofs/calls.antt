-- Below the layers: each call taken apart. It is refused and nothing changed, or every test that it passed and what it
-- does; in any state.
pub mod Serving
pub mod Receive
pub mod Receiving
