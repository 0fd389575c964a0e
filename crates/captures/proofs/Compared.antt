-- A text that was compared line by line is the listing. Assumes nothing.
use Prim.Native.Nat.{ℕ, ◌+◌, ◌-◌}
use mathlib.Core.Path.{◌≡◌, sym, ap, ◌∙◌}
use mathlib.Core.List.{List, ◌++◌, append_assoc, append-nil}
use mathlib.Core.Bool.{Bool, true, false}
use native.Mathlib.Omega.{arith}
use lib.ListN.{length, take, drop, length-drop, take-append-drop}
use lib.Seq.{take_all, take-add}
use Rattle.listing.specs.Lines.{line_of, is_last, next_of, listing_from, listing_of}
use Rattle.listing.proofs.Listing.{line-and-rest}

-- The text up to `to` and the lines from `at` on are the listing.
abbrev pub SoFar : List ℕ → Bool → List ℕ → ℕ → ℕ → Type 0
SoFar capture more text at to = take to text ++ listing_from capture more at ≡ listing_of capture more

module _ (capture : List ℕ) (more : Bool) (text : List ℕ) (at to : ℕ) (line : List ℕ)
    (so : SoFar capture more text at to) (is : line ≡ line_of capture more at) where
  pub last-same : is_last capture more at ≡ true → line ≡ take (length text - to) (drop to text)
      → text ≡ listing_of capture more
  last-same last same =
      let rest : listing_from capture more at ≡ line =
      line-and-rest capture more at ∙ rw (last, ← is) (append-nil line) in
      let tail : line ≡ drop to text =
      same ∙ take_all (length text - to) (drop to text) (rw length-drop (omega arith)) in
      sym (take-append-drop to text) ∙ ap (λ (l : List ℕ). take to text ++ l) (sym tail ∙ sym rest) ∙ so

  pub more_same : is_last capture more at ≡ false → (len next : ℕ) → next ≡ next_of capture at
      → line ≡ take (to + len - to) (drop to text) → SoFar capture more text next (to + len)
  more_same last len next n same =
      let rest : listing_from capture more at ≡ line ++ listing_from capture more next =
      line-and-rest capture more at ∙ rw (last, ← is, ← n) in
      let e : to + len - to ≡ len = omega arith in
      rw (take-add to len text, ← (rw e at same)) (append_assoc (take to text) line (listing_from capture more next)
      ∙ ap (λ (l : List ℕ). take to text ++ l) (sym rest) ∙ so)
