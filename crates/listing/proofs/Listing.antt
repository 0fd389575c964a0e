-- The laws of the listing: each place is further than the one before it, so the fuel of the definition always lasts.
-- Assumes nothing.
use Prim.Native.Nat.{ℕ, zero, suc, ◌+◌, ◌-◌, ◌≤◌, ◌<◌}
use mathlib.Core.Path.{◌≡◌, refl, sym, ap, ◌∙◌}
use mathlib.Core.List.{List, [], ◌++◌, append-nil}
use mathlib.Core.Bool.{Bool, true, false, cond, not, ◌||◌}
use native.Mathlib.Omega.{arith}
use borrow.Author.Tests.{le-leb, leb-false}
use lib.ListN.{length, drop, length-drop}
use lib.Dec.{leb}
use Rattle.ftd.specs.Packet.{said_in, read_of}
use Rattle.listing.specs.Lines.{line_of, goes_on, is_last, next_of, lines_in, listing_from}
use Rattle.listing.specs.Laws.{Listed}
use Rattle.listing.proofs.Whole.{There, there, never}

module _ (capture : List ℕ) (more : Bool) where
  -- No bytes left: the last line.
  end-last : (at : ℕ) → length capture ≤ at → is_last capture more at ≡ true
  unfolding is_last
  end-last at h = rw (le-leb (length capture) at h) (go more)
    where
      go : (b : Bool) → (b || true) ≡ true
      go true = refl
      go false = refl

  -- The next place lies behind this one, inside the capture or at its end.
  pub further : (at : ℕ) → is_last capture more at ≡ false
      → (at < next_of capture at) × (next_of capture at ≤ length capture)
  unfolding is_last next_of
  further at = go more (leb (length capture) at) refl (goes_on (read_of (drop at capture))) refl
    where
      go : (m b : Bool) → leb (length capture) at ≡ b → (g : Bool) → goes_on (read_of (drop at capture)) ≡ g
          → (m || (b || not g)) ≡ false
          → (at < at + said_in (drop at capture)) × (at + said_in (drop at capture) ≤ length capture)
      go true b e g f h = never (sym h)
      go false true e g f h = never (sym h)
      go false false e false f h = never (sym h)
      go false false e true f h =
          let t : There (drop at capture) = there (drop at capture) f in
          let n : length (drop at capture) ≡ length capture - at = length-drop at capture in
          let i : at < length capture = leb-false (length capture) at e in
          (omega (arith, t.least), omega (arith, t.most))

  fuel : (f g at : ℕ) → length capture - at ≤ f → length capture - at ≤ g
      → lines_in f capture more at ≡ lines_in g capture more at
  unfolding lines_in
  fuel zero zero at p q = refl
  fuel zero (suc g) at p q = rw (end-last at (omega arith), append-nil)
  fuel (suc f) zero at p q = rw (end-last at (omega arith), append-nil)
  fuel (suc f) (suc g) at p q = go (is_last capture more at) refl (λ n a b. fuel f g n a b)
    where
      go : (b : Bool) → is_last capture more at ≡ b
          → ((n : ℕ) → length capture - n ≤ f → length capture - n ≤ g
          → lines_in f capture more n ≡ lines_in g capture more n)
          → lines_in (suc f) capture more at ≡ lines_in (suc g) capture more at
      go true e ih = rw e
      go false e ih =
          let h = further at e in
          rw e (ap (λ (l : List ℕ). line_of capture more at ++ l) (ih (next_of capture at) (omega arith) (omega arith)))

  pub line-and-rest : (at : ℕ) → listing_from capture more at ≡ line_of capture more at ++ cond (is_last capture more at)
      [] (listing_from capture more (next_of capture at))
  unfolding lines_in listing_from
  line-and-rest at = fuel (length capture) (suc (length capture)) at (omega arith) (omega arith)

pub listed : Listed
unfolding line_of is_last
listed = record { step = line-and-rest; alone = λ capture. line-and-rest capture true 0 ∙ append-nil _ }
