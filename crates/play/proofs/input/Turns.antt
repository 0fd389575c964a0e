-- One turn of `take_line`'s loop, over plain numbers and bytes. Assumes nothing.
use Prim.Native.Nat.{ℕ, suc, ◌+◌, ◌<◌, ◌≤◌}
use native.Mathlib.Omega.{arith}
use mathlib.Core.Path.{◌≡◌, refl, ap, ◌∙◌}
use mathlib.Core.List.{List, ◌∷◌}
use mathlib.Core.Bool.{true, false, cond}
use borrow.Author.Tests.{lt-ltb, le-ltb, eq-eqb, ne_eqb}
use lib.ListN.{length, get_or, drop, set, drop_of_length-le}
use lib.Seq.{drop-cons}
use lib.Dec.{eqb}
use Rattle.play.specs.Input.{line_taken, with_byte, with_one, take_from, take_line_of}

module _ (input : List ℕ) (i : ℕ) (line : List ℕ) (n : ℕ) where
  -- Nothing is left.
  pub over : length input ≤ i → take_line_of input i line n ≡ line_taken i n false line
  unfolding take_line_of
  over h = ap (take_from i line n) (drop_of_length-le input {i = i} h)

  -- The byte in front, and the others.
  front : i < length input → drop i input ≡ get_or input i 0 ∷ drop (i + 1) input
  front h =
      let e : suc i ≡ i + 1 = omega arith in
      drop-cons input i 0 h ∙ ap (λ (k : ℕ). get_or input i 0 ∷ drop k input) e

  step : i < length input → take_line_of input i line n
      ≡ cond (eqb (get_or input i 0) 10) (line_taken (i + 1) n true line)
      (take_line_of input (i + 1) (with_byte line n (get_or input i 0)) (with_one line n))
  unfolding take_line_of
  step h = ap (take_from i line n) (front h)

  pub end : i < length input → get_or input i 0 ≡ 10 → take_line_of input i line n ≡ line_taken (i + 1) n true line
  end h q = step h ∙ rw (eq-eqb (get_or input i 0) 10 q) refl

  pub laid : i < length input → (get_or input i 0 ≡ 10 → ⊥) → n < length line
      → take_line_of input i line n ≡ take_line_of input (i + 1) (set line n (get_or input i 0)) (n + 1)
  laid h q r = step h ∙ rw (ne_eqb (get_or input i 0) 10 q, lt-ltb n (length line) r) refl

  pub too_long : i < length input → (get_or input i 0 ≡ 10 → ⊥) → length line ≤ n
      → take_line_of input i line n ≡ take_line_of input (i + 1) line (length line + 1)
  too_long h q r = step h ∙ rw (ne_eqb (get_or input i 0) 10 q, le-ltb n (length line) r) refl
