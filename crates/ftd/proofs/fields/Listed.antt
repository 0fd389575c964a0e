-- The fields of a content as the code walks over them, one by one. Assumes nothing.
use Prim.Native.Nat.{ℕ, zero, suc, ◌+◌, ◌-◌, ◌≤◌}
use mathlib.Core.Path.{◌≡◌, refl, sym, ap, ◌∙◌}
use mathlib.Core.List.{List, [], ◌∷◌}
use mathlib.Core.Bool.{Bool, true, false, cond}
use native.Mathlib.Nat.{add-zero, zero-add}
use native.Mathlib.Omega.{arith}
use lib.ListN.{length, take, drop, length-take, length-drop}
use lib.Dec.{eqb}
use Rattle.std.specs.List.{filter, find, slice_get}
use Rattle.std.specs.Prelude.{Some}
use Rattle.ftd.specs.Bytes.{be32_of}
use Rattle.ftd.specs.Runs.{front, run_of, run_in, cut_off}
use Rattle.ftd.specs.Fields.{field, fields_of, fid_of, one_if, counted, count_of, first_in, first_of, field_in}
use Rattle.ftd.specs.Fields.{field_place_of, FieldInside}
use Rattle.ftd.specs.Fields.Helpers.{places, fields_from}
use Rattle.ftd.specs.declared.fields.FieldPlace.{FieldPlace}
use Rattle.ftd.proofs.runs.Laws.{run-over, run-next, entry_length, front-inside}
use Rattle.ftd.proofs.fields.Turns.{some-field, field-head, be32-entry}

module _ (l : List ℕ) (at n : ℕ) (e : n ≡ front field (drop at l)) where
  pub walk-over : n ≡ 0 → fields_from l at ≡ []
  unfolding fields_from
  walk-over z = rw (run-over field some-field l at n e z)

  pub walk-next : (n ≡ 0 → ⊥) → (found : ℕ) → found ≡ be32_of l at
      → fields_from l at ≡ record { fid = found; start = at + 6; len = n - 6 } ∷ fields_from l (at + n)
  unfolding fields_from
  walk-next z found q =
      rw (
        q,
        run-next field some-field l at n e z,
        entry_length field some-field l at n e,
        be32-entry l at n (field-head l at n e z),
      )

abbrev pub has_fid : ℕ → FieldPlace → Bool
has_fid fid p = eqb p.fid fid

module _ (fid : ℕ) where
  places-counted : (fs : List (List ℕ)) (at seen : ℕ) → seen + length (filter (has_fid fid) (places at fs)) ≡ counted fid fs seen
  unfolding one_if
  places-counted [] at seen = add-zero seen
  places-counted (f ∷ fs) at seen = go (eqb (fid_of f) fid) refl (λ n. places-counted fs (at + length f) n)
    where
      go : (b : Bool) → eqb (fid_of f) fid ≡ b
          → ((n : ℕ) → n + length (filter (has_fid fid) (places (at + length f) fs)) ≡ counted fid fs n)
          → seen + length (filter (has_fid fid) (places at (f ∷ fs))) ≡ counted fid (f ∷ fs) seen
      go true h ih =
          let a : (k : ℕ) → seen + suc k ≡ seen + 1 + k = λ k. omega arith in
          rw h (a (length (filter (has_fid fid) (places (at + length f) fs))) ∙ ih (seen + 1))
      go false h ih = rw (h, add-zero) (ih seen)

  pub walk-counted : (content : List ℕ) → length (filter (has_fid fid) (fields_from content 0)) ≡ count_of fid content
  unfolding fields_from count_of
  walk-counted content = sym (zero-add _) ∙ places-counted (fields_of content) 0 0

  places-first : (fs : List (List ℕ)) (at : ℕ) → find (has_fid fid) (places at fs) ≡ first_in at fs fid
  places-first [] at = refl
  places-first (f ∷ fs) at = rw (places-first fs (at + length f))

  pub walk-first : (content : List ℕ) → find (has_fid fid) (fields_from content 0) ≡ first_of content fid
  unfolding fields_from first_of
  walk-first content = places-first (fields_of content) 0

places-nth : (fs : List (List ℕ)) (at i : ℕ) → slice_get (places at fs) i ≡ field_in at fs i
places-nth [] at i = refl
places-nth (f ∷ fs) at zero = refl
places-nth (f ∷ fs) at (suc i) = places-nth fs (at + length f) i

pub walk-nth : (content : List ℕ) (i : ℕ) → slice_get (fields_from content 0) i ≡ field_place_of content i
unfolding fields_from field_place_of
walk-nth content i = places-nth (fields_of content) 0 i

-- ─── How many, and where ───

run-few : (most : ℕ) (l : List ℕ) → length (run_in field most l).entries ≤ most
run-few zero l = omega arith
run-few (suc most) l = go (front field l) (λ r. run-few most r)
  where
    go : (w : ℕ) → ((r : List ℕ) → length (run_in field most r).entries ≤ most)
        → length (cut_off (run_in field most) l w).entries ≤ suc most
    go zero few = omega arith
    go (suc w) few = omega (arith, few (drop (suc w) l))

places-long : (fs : List (List ℕ)) (at : ℕ) → length (places at fs) ≡ length fs
places-long [] at = refl
places-long (f ∷ fs) at = ap suc (places-long fs (at + length f))

pub walk-few : (l : List ℕ) → length (fields_from l 0) ≤ length l
unfolding fields_from run_of
walk-few l = rw (places-long (run_of field l).entries 0) (run-few (length l) l)

-- Each lies inside.
abbrev pub AllInside : ℕ → List FieldPlace → Type 0
AllInside n [] = Unit
AllInside n (p ∷ ps) = (p.start + p.len ≤ n) × AllInside n ps

inside-in : (most : ℕ) (l : List ℕ) (at n : ℕ) → at + length l ≤ n → AllInside n (places at (run_in field most l).entries)
inside-in zero l at n h = tt
inside-in (suc most) l at n h = go (front field l) refl (λ r b k. inside-in most r b n k)
  where
    go : (w : ℕ) → w ≡ front field l
        → ((r : List ℕ) (b : ℕ) → b + length r ≤ n → AllInside n (places b (run_in field most r).entries))
        → AllInside n (places at (cut_off (run_in field most) l w).entries)
    go zero e more = tt
    go (suc w) e more =
        let head : 6 ≤ suc w = field-head l 0 (suc w) e (λ z. absurd (omega (arith, z))) in
        let whole : suc w ≤ length l = rw (← e) at (front-inside field l) in
        let long : length (take (suc w) l) ≡ suc w = rw length-take (omega arith) in
        let left : length (drop (suc w) l) ≡ length l - suc w = length-drop (suc w) l in
        (omega arith, more (drop (suc w) l) (at + length (take (suc w) l)) (omega arith))

pub walk-inside : (l : List ℕ) → AllInside (length l) (fields_from l 0)
unfolding fields_from run_of
walk-inside l = inside-in (length l) l 0 (length l) (omega arith)

pub find-inside : (content : List ℕ) (test : FieldPlace → Bool) (ps : List FieldPlace) → AllInside (length content) ps
    → FieldInside content (find test ps)
find-inside content test [] h = tt
find-inside content test (p ∷ ps) h = go (test p) (find-inside content test ps h.1)
  where
    go : (b : Bool) → FieldInside content (find test ps) → FieldInside content (cond b (Some p) (find test ps))
    go true k = h.0
    go false k = k

pub nth-inside : (content : List ℕ) (ps : List FieldPlace) (i : ℕ) → AllInside (length content) ps
    → FieldInside content (slice_get ps i)
nth-inside content [] i h = tt
nth-inside content (p ∷ ps) zero h = h.0
nth-inside content (p ∷ ps) (suc i) h = nth-inside content ps i h.1
