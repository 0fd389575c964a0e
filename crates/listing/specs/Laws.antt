-- What is promised of the listing: whoever writes line after line writes the listing (01, Lister).
use Rattle.std.specs.Prelude.{ℕ, ◌≡◌, List, [], ◌++◌, Bool, true, cond}
use Rattle.listing.specs.Text.{long}
use Rattle.listing.specs.Lines.{line_with, line_of, is_last, next_of, listing_from, listing_of}

pub record Listed : Type 0 where
  -- From a place on the listing is the line there and, unless that is the last one, the listing from the next place on.
  pub step : (capture : List ℕ) (more : Bool) (at : ℕ)
      → listing_from capture more at ≡ line_of capture more at ++ cond (is_last capture more at) []
      (listing_from capture more (next_of capture at))
  -- Where the input goes on behind the capture there is only the line `long`.
  pub alone : (capture : List ℕ) → listing_of capture true ≡ line_with 0 long
