-- A run is the field at its front and the run behind it. Assumes nothing.
use Prim.Native.Nat.{ℕ, zero, suc, ◌+◌, ◌-◌, ◌<◌, ◌≤◌}
use mathlib.Core.Path.{◌≡◌, refl, sym, ap, ◌∙◌}
use mathlib.Core.List.{List, [], ◌∷◌}
use native.Mathlib.Omega.{arith}
use lib.ListN.{length, take, drop, length-drop}
use lib.Seq.{drop-drop, length-take-le}
use Rattle.ftd.specs.Bytes.{part}
use Rattle.fix.specs.declared.fields.Last.{Last}
use Rattle.fix.specs.Fields.{last_of, front_of, in_front, field_of, cut_off, cut_in, cut_from}
use Rattle.fix.specs.FieldPlaces.{FrontInside}
use Rattle.fix.proofs.fields.Fronts.{front-inside}
use Rattle.std.specs.Prelude.{Some, None}
use Rattle.fix.specs.Types.{MaybeFront, some_front}

-- No bytes hold no field.
front-none : (last : Last) (l : List ℕ) → length l ≤ 0 → front_of last l ≡ None
unfolding front_of
front-none last [] h = refl
front-none last (x ∷ l) h = absurd (omega arith)

fuel : (n m : ℕ) (last : Last) (l : List ℕ) → length l ≤ n → length l ≤ m → cut_in n last l ≡ cut_in m last l
fuel zero zero last l h k = refl
fuel zero (suc m) last l h k = rw (front-none last l h)
fuel (suc n) zero last l h k = rw (front-none last l k)
fuel (suc n) (suc m) last l h k = go (front_of last l) (λ a r p q. fuel n m a r p q)
  where
    go : (f : MaybeFront) → ((a : Last) (r : List ℕ) → length r ≤ n → length r ≤ m → cut_in n a r ≡ cut_in m a r)
        → cut_off (cut_in n) l f ≡ cut_off (cut_in m) l f
    go None ih = refl
    go (Some found) ih =
        ap (in_front (field_of found.tag found.start found.len l))
        (ih (last_of found.tag (part l found.start found.len)) (drop (found.start + found.len + 1) l)
        (rw length-drop (omega arith)) (rw length-drop (omega arith)))

pub cut_step : (last : Last) (l : List ℕ) → cut_from last l ≡ cut_off cut_from l (front_of last l)
unfolding cut_from
cut_step last l = fuel (length l) (suc (length l)) last l (omega arith) (omega arith) ∙ go (front_of last l)
  where
    go : (f : MaybeFront) → cut_off (cut_in (length l)) l f ≡ cut_off (λ (a : Last) (r : List ℕ). cut_in (length r) a r) l f
    go None = refl
    go (Some found) =
        ap (in_front (field_of found.tag found.start found.len l))
        (fuel (length l) (length (drop (found.start + found.len + 1) l)) (last_of found.tag (part l found.start found.len)) (drop (found.start + found.len + 1) l)
        (rw length-drop (omega arith)) (omega arith))

-- A field ends before the bytes do.
pub field-within : (n : ℕ) (f : MaybeFront) → FrontInside n f → (tag start len : ℕ) → f ≡ some_front tag start len
    → start + len < n
field-within n f h tag start len q = let g : FrontInside n (some_front tag start len) = rw q at h in g.2

-- The run from a place on, by the field there.
module _ (last : Last) (run : List ℕ) (at : ℕ) (f : MaybeFront) (e : f ≡ front_of last (drop at run)) where
  -- None stands there: the run is over.
  pub cut-over : f ≡ None → cut_from last (drop at run) ≡ record { fields = []; rest = drop at run }
  cut-over q = rw (cut_step last (drop at run), ← e, q)

  module _ (tag start len : ℕ) (q : f ≡ some_front tag start len) where
    pub field-inside : (1 ≤ start) × (1 ≤ len) × (start + len < length run - at)
    field-inside =
        let g : front_of last (drop at run) ≡ some_front tag start len = sym e ∙ q in
        rw (g, length-drop) at (front-inside last (drop at run))

    -- Its text, as the code lends it.
    pub text-part : take (at + start + len - (at + start)) (drop (at + start) run) ≡ part (drop at run) start len
    text-part =
        let k : at + start + len - (at + start) ≡ len = omega arith in
        rw (k, drop-drop start at run)

    pub text-length : length (part (drop at run) start len) ≡ len
    text-length =
        let h : start + len < length run - at = field-inside.2 in
        length-take-le len (drop start (drop at run)) (rw (length-drop, length-drop) (omega (arith, h)))

    -- It is cut off, and the run goes on behind it.
    pub cut-next : (next : Last) → next ≡ last_of tag (take (at + start + len - (at + start)) (drop (at + start) run))
        → cut_from last (drop at run)
        ≡ in_front (field_of tag start len (drop at run)) (cut_from next (drop (at + start + len + 1) run))
    cut-next next w =
        let k : at + (start + len + 1) ≡ at + start + len + 1 = omega arith in
        rw (cut_step last (drop at run), ← e, q, w, text-part, drop-drop (start + len + 1) at run, k)
