-- What a caller learns from the answer of `write_line`: the line stands at the start of the buffer, and whether another
-- one follows. Assumes nothing.
use Prim.Native.Nat.{ℕ, ◌≤◌, ◌<◌}
use mathlib.Core.Path.{◌≡◌, refl, sym, ap, ◌∙◌}
use mathlib.Core.List.{List, ◌++◌}
use mathlib.Core.Bool.{Bool, true, false, cond}
use native.Mathlib.Omega.{arith}
use lib.ListN.{length, take, drop, length-append, length-drop}
use lib.Seq.{take_at}
use lib.Dec.{ltb}
use Rattle.listing.specs.declared.Line.TheVariants.{TooSmall, Last, More}
use Rattle.listing.specs.Lines.{line_of, is_last, next_of, answer_of, out_of}
use Rattle.listing.proofs.Listing.{further}

-- A line of `len` bytes stands at the start of the buffer.
pub record Stands (text out : List ℕ) (len : ℕ) : Type 0 where
  pub room : len ≤ length out
  pub text-is : take len out ≡ text

module _ (capture : List ℕ) (more : Bool) (at : ℕ) (l out : List ℕ) (len : ℕ) (o : out ≡ out_of capture more at l)
    (kept : length out ≡ length l) where
  stands : ltb (length l) 64 ≡ false → len ≡ length (line_of capture more at) → Stands (line_of capture more at) out len
  unfolding out_of
  stands e n =
      let w : out ≡ line_of capture more at ++ drop (length (line_of capture more at)) l = rw e at o in
      record {
        room = omega (arith, simp (length-append, length-drop) at (ap length w));
        text-is = ap (take len) w ∙ take_at (line_of capture more at) _ len (sym n);
      }

  pub last-told : Last len ≡ answer_of capture more at l
      → (is_last capture more at ≡ true) × Stands (line_of capture more at) out len
  unfolding answer_of
  last-told = go (ltb (length l) 64) refl (is_last capture more at) refl
    where
      go : (b : Bool) → ltb (length l) 64 ≡ b → (c : Bool) → is_last capture more at ≡ c
          → Last len ≡ cond b TooSmall
          (cond c (Last (length (line_of capture more at))) (More (length (line_of capture more at)) (next_of capture at)))
          → (is_last capture more at ≡ true) × Stands (line_of capture more at) out len
      go true e c f p = absurd (let z : ◌≡◌ {A = ℕ} 0 1 = cc in omega arith)
      go false e true f p = (f, stands e (cc))
      go false e false f p = absurd (let z : ◌≡◌ {A = ℕ} 0 1 = cc in omega arith)

  pub more-told : (next : ℕ) → More len next ≡ answer_of capture more at l
      → (is_last capture more at ≡ false) × (next ≡ next_of capture at) × Stands (line_of capture more at) out len
  unfolding answer_of
  more-told next = go (ltb (length l) 64) refl (is_last capture more at) refl
    where
      go : (b : Bool) → ltb (length l) 64 ≡ b → (c : Bool) → is_last capture more at ≡ c
          → More len next ≡ cond b TooSmall
          (cond c (Last (length (line_of capture more at))) (More (length (line_of capture more at)) (next_of capture at)))
          → (is_last capture more at ≡ false) × (next ≡ next_of capture at) × Stands (line_of capture more at) out len
      go true e c f p = absurd (let z : ◌≡◌ {A = ℕ} 0 1 = cc in omega arith)
      go false e true f p = absurd (let z : ◌≡◌ {A = ℕ} 0 1 = cc in omega arith)
      go false e false f p = (f, cc, stands e (cc))

  -- The next place is further on, and no further than the capture's end.
  pub onward : (next : ℕ) → More len next ≡ answer_of capture more at l → (at < next) × (next ≤ length capture)
  onward next p =
      let t = more-told next p in
      let h = further capture more at t.0 in
      (omega arith, omega arith)
