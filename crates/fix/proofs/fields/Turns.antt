-- One turn of each loop over the fields, over plain variables. Assumes nothing.
use Prim.Native.Nat.{ℕ, zero, suc, ◌+◌, ◌-◌, ◌≤◌}
use mathlib.Core.Path.{◌≡◌, refl, sym, subst, ◌∙◌}
use mathlib.Core.List.{List, [], ◌∷◌}
use mathlib.Core.Option.{Option, none, some}
use mathlib.Core.Bool.{Bool, true, false, cond}
use native.Mathlib.Omega.{arith}
use borrow.Author.Tests.{eq-eqb, ne_eqb}
use lib.ListN.{length, take, drop, length-drop}
use lib.Seq.{drop-drop, length-take-le}
use lib.Dec.{eqb}
use Rattle.ftd.specs.Bytes.{part}
use Rattle.fix.specs.Types.{Number}
use Rattle.fix.specs.declared.fields.Last.{Last}
use Rattle.fix.specs.Text.{number_in, or_else}
use Rattle.fix.specs.Fields.{last_of, no_last, front_of, Given, field_of, cut_off, cut_in, cut_from, fields_of}
use Rattle.fix.specs.Fields.{size_of, place_in, place_of, first_in, first_of, number_at}
use Rattle.fix.specs.FieldPlaces.{FrontInside, PlaceInside}
use Rattle.fix.proofs.fields.Fronts.{front-inside}
use Rattle.fix.proofs.fields.Cuts.{cut-over, text-length, cut-next}
use Rattle.std.specs.Prelude.{Some, None}
use Rattle.std.specs.Option.{unwrap_or}
use Rattle.fix.specs.declared.fields.Front.{Front}
use Rattle.fix.specs.Types.{MaybeFront, some_front}

-- ─── Field i ───

pub place-start : (run : List ℕ) (i : ℕ) (last : Last) → last ≡ no_last
    → place_in 0 (cut_from last (drop 0 run)).fields i ≡ place_of run i
unfolding place_of
place-start run i last e = rw e

module _ (last : Last) (run : List ℕ) (at : ℕ) (f : MaybeFront) (e : f ≡ front_of last (drop at run)) (left : ℕ) (t : MaybeFront)
    (inv : place_in at (cut_from last (drop at run)).fields left ≡ t) where
  pub place-over : f ≡ None → (r : MaybeFront) → r ≡ None → (r ≡ t) × PlaceInside run r
  place-over q r v = (rw v (rw (cut-over last run at f e q) at inv), rw v tt)

  module _ (tag start len : ℕ) (q : f ≡ some_front tag start len) where
    same : length (part (drop at run) start len) ≡ len
    same = text-length last run at f e tag start len q

    pub place_here : left ≡ 0 → some_front tag (at + start) len ≡ t
    place_here h =
        rw (cut-next last run at f e tag start len q _ refl, h, same) at inv

    pub place-turn : (left ≡ 0 → ⊥) → (next : Last)
        → next ≡ last_of tag (take (at + start + len - (at + start)) (drop (at + start) run))
        → place_in (at + start + len + 1) (cut_from next (drop (at + start + len + 1) run)).fields (left - 1) ≡ t
    place-turn h next w = go left h (rw (cut-next last run at f e tag start len q next w) at inv)
      where
        more : List Given
        more = (cut_from next (drop (at + start + len + 1) run)).fields

        go : (k : ℕ) → (k ≡ 0 → ⊥) → place_in at (field_of tag start len (drop at run) ∷ more) k ≡ t
            → place_in (at + start + len + 1) more (k - 1) ≡ t
        go zero h p = absurd (h refl)
        go (suc k) h p =
            let s : suc k - 1 ≡ k = omega arith in
            let a : at + (start + len + 1) ≡ at + start + len + 1 = omega arith in
            rw s
            (subst (λ (x : ℕ). place_in x more k ≡ t) a
            (subst (λ (x : ℕ). place_in (at + (start + x + 1)) more k ≡ t) same p))

-- ─── The first field with a tag ───

pub first-start : (run : List ℕ) (tag : ℕ) (last : Last) → last ≡ no_last
    → first_in 0 (cut_from last (drop 0 run)).fields tag ≡ first_of run tag
unfolding first_of
first-start run tag last e = rw e

module _ (last : Last) (run : List ℕ) (at : ℕ) (f : MaybeFront) (e : f ≡ front_of last (drop at run)) (tag : ℕ) (t : MaybeFront)
    (inv : first_in at (cut_from last (drop at run)).fields tag ≡ t) where
  pub first-over : f ≡ None → (r : MaybeFront) → r ≡ None → (r ≡ t) × PlaceInside run r
  first-over q r v = (rw v (rw (cut-over last run at f e q) at inv), rw v tt)

  module _ (found start len : ℕ) (q : f ≡ some_front found start len) (next : Last)
      (w : next ≡ last_of found (take (at + start + len - (at + start)) (drop (at + start) run))) where
    opened : cond (eqb found tag) (some_front found (at + start) len)
        (first_in (at + start + len + 1) (cut_from next (drop (at + start + len + 1) run)).fields tag) ≡ t
    opened =
        let a : at + (start + len + 1) ≡ at + start + len + 1 = omega arith in
        let same : length (part (drop at run) start len) ≡ len = text-length last run at f e found start len q in
        let h : cond (eqb found tag) (some_front found (at + start) (length (part (drop at run) start len)))
        (first_in (at + (start + length (part (drop at run) start len) + 1))
        (cut_from next (drop (at + start + len + 1) run)).fields tag) ≡ t =
        rw (cut-next last run at f e found start len q next w) at inv in
        rw (same, a) at h

    pub first-turn : (found ≡ tag → ⊥)
        → first_in (at + start + len + 1) (cut_from next (drop (at + start + len + 1) run)).fields tag ≡ t
    first-turn h = rw (ne_eqb found tag h) at opened

  pub first-here : (found start len : ℕ) → f ≡ some_front found start len → found ≡ tag
      → some_front found (at + start) len ≡ t
  first-here found start len q h = rw (eq-eqb found tag h) at (opened found start len q _ refl)

-- ─── Texts at their places ───

-- Each field's text stands where the fields before it end, behind its tag.
abbrev pub LaidFrom : List ℕ → ℕ → List Given → Type 0
LaidFrom run at [] = Unit
LaidFrom run at (f ∷ fs) =
    (part run (at + f.head) (length f.text) ≡ f.text) × (at + f.head + length f.text ≤ length run)
    × LaidFrom run (at + size_of f) fs

laid-cut : (run : List ℕ) (most : ℕ) (last : Last) (at : ℕ) → LaidFrom run at (cut_in most last (drop at run)).fields
laid-cut run zero last at = tt
laid-cut run (suc most) last at =
    go (front_of last (drop at run)) (rw length-drop at (front-inside last (drop at run))) (λ a k. laid-cut run most a k)
  where
    go : (f : MaybeFront) → FrontInside (length run - at) f
        → ((a : Last) (k : ℕ) → LaidFrom run k (cut_in most a (drop k run)).fields)
        → LaidFrom run at (cut_off (cut_in most) (drop at run) f).fields
    go None h ih = tt
    go (Some found1) h ih =
        let same : length (take found1.len (drop (at + found1.start) run)) ≡ found1.len =
        length-take-le found1.len (drop (at + found1.start) run) (rw length-drop (omega (arith, h.2))) in
        rw (drop-drop found1.start at run, same, drop-drop (found1.start + found1.len + 1) at run) (
          refl,
          omega (arith, h.2),
          ih (last_of found1.tag (take found1.len (drop (at + found1.start) run))) (at + (found1.start + found1.len + 1)),
        )

pub laid : (run : List ℕ) → LaidFrom run 0 (fields_of run)
unfolding cut_from
laid run = laid-cut run (length run) no_last 0

-- The text of the first field with a tag.
abbrev pub first_text : ℕ → List Given → Option (List ℕ)
first_text tag [] = none
first_text tag (f ∷ fs) = cond (eqb f.tag tag) (some f.text) (first_text tag fs)

-- A text stands at this place of the run; or there is none.
abbrev pub LiesAt : List ℕ → Option (List ℕ) → MaybeFront → Type 0
LiesAt run none None = Unit
LiesAt run none (Some found) = ⊥
LiesAt run (some text) None = ⊥
LiesAt run (some text) (Some found) = (part run found.start found.len ≡ text) × (found.start + found.len ≤ length run)

first-lies : (run : List ℕ) (tag at : ℕ) (fs : List Given) → LaidFrom run at fs
    → LiesAt run (first_text tag fs) (first_in at fs tag)
first-lies run tag at [] h = tt
first-lies run tag at (f ∷ fs) h = go (eqb f.tag tag) (first-lies run tag (at + size_of f) fs h.2)
  where
    go : (b : Bool) → LiesAt run (first_text tag fs) (first_in (at + size_of f) fs tag)
        → LiesAt run (cond b (some f.text) (first_text tag fs))
        (cond b (some_front f.tag (at + f.head) (length f.text)) (first_in (at + size_of f) fs tag))
    go true ih = (h.0, h.1)
    go false ih = ih

pub text-lies : (run : List ℕ) (tag : ℕ) → LiesAt run (first_text tag (fields_of run)) (first_of run tag)
unfolding first_of
text-lies run tag = first-lies run tag 0 (fields_of run) (laid run)

-- ─── Its number ───

-- The number that a text is, or 0.
abbrev pub number_or : Option (List ℕ) → ℕ
number_or none = 0
number_or (some text) = or_else 0 (number_in text)

pub number-text : (tag : ℕ) (fs : List Given) → number_at tag fs ≡ number_or (first_text tag fs)
number-text tag [] = refl
number-text tag (f ∷ fs) = go (eqb f.tag tag) (number-text tag fs)
  where
    go : (b : Bool) → number_at tag fs ≡ number_or (first_text tag fs)
        → cond b (or_else 0 (number_in f.text)) (number_at tag fs) ≡ number_or (cond b (some f.text) (first_text tag fs))
    go true p = refl
    go false p = p

abbrev number_of : List ℕ → MaybeFront → ℕ
number_of run None = 0
number_of run (Some found) = or_else 0 (number_in (part run found.start found.len))

number-lies : (run : List ℕ) (x : Option (List ℕ)) (f : MaybeFront) → LiesAt run x f → number_or x ≡ number_of run f
number-lies run none None h = refl
number-lies run none (Some found) h = absurd h
number-lies run (some text) None h = absurd h
number-lies run (some text) (Some found) h = rw h.0

module _ (run : List ℕ) (tag : ℕ) (f : MaybeFront) (e : f ≡ first_of run tag) where
  first-number : number_at tag (fields_of run) ≡ number_of run f
  first-number =
      number-text tag (fields_of run)
      ∙ rw e (number-lies run (first_text tag (fields_of run)) (first_of run tag) (text-lies run tag))

  pub number-none : f ≡ None → 0 ≡ number_at tag (fields_of run)
  number-none q = sym (rw q at first-number)

  pub number-some : (found start len : ℕ) → f ≡ some_front found start len → (x : Number) (n : ℕ)
      → x ≡ number_in (take (start + len - start) (drop start run)) → or_else 0 x ≤ 999999999 → n ≡ unwrap_or x 0
      → (n ≡ number_at tag (fields_of run)) × (n ≤ 999999999)
  number-some found start len q x n u h v =
      let k : start + len - start ≡ len = omega arith in
      let p : x ≡ number_in (part run start len) = rw k at u in
      (rw (v, or_zero x, p) (sym (rw q at first-number)), rw (v, or_zero x) h)
    where
      or_zero : (y : Number) → unwrap_or y 0 ≡ or_else 0 y
      or_zero None = refl
      or_zero (Some m) = refl

  pub number-chained : (x : Number) → (f ≡ None → x ≡ None)
      → ((found : Front) → f ≡ Some found
      → (x ≡ number_in (take (found.start + found.len - found.start) (drop found.start run))) × (or_else 0 x ≤ 999999999))
      → (n : ℕ) → n ≡ unwrap_or x 0 → (n ≡ number_at tag (fields_of run)) × (n ≤ 999999999)
  number-chained x none-is some-is n v = go f refl
    where
      go : (o : MaybeFront) → f ≡ o → (n ≡ number_at tag (fields_of run)) × (n ≤ 999999999)
      go None q = (rw (v, none-is q) (number-none q), rw (v, none-is q) (omega arith))
      go (Some found) q =
          let k = some-is found q in
          number-some found.tag found.start found.len q x n k.0 k.1 v
