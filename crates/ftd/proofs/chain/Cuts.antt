-- One turn of the cutting, over plain variables. Assumes nothing.
use Prim.Native.Nat.{ℕ, ◌+◌, ◌-◌, ◌<◌, ◌≤◌}
use mathlib.Core.Path.{◌≡◌, refl, sym, ap, ◌∙◌}
use mathlib.Core.List.{List, [], ◌∷◌, ◌++◌}
use mathlib.Core.Bool.{Bool, true, false, ◌&&◌}
use native.Mathlib.Omega.{arith}
use borrow.Author.Tests.{le-leb, lt-leb, leb-true}
use lib.ListN.{length, take, drop, length-drop, length-take}
use lib.Seq.{take-add, drop-drop}
use lib.Dec.{leb}
use Rattle.ftd.specs.Bytes.{part}
use Rattle.ftd.specs.Runs.{Run, front, run_of, ended}
use Rattle.ftd.specs.Fields.{field, fields_of, all_small, shapely}
use Rattle.ftd.specs.Chain.{Piece, pack, pieces_of}
use Rattle.ftd.specs.Chain.Helpers.{NextPiece}
use Rattle.ftd.proofs.runs.Laws.{run-over, run-next, entry-inside, entry_length}
use Rattle.ftd.proofs.fields.Turns.{some-field}
use Rattle.ftd.proofs.fields.Shape.{shape-over, shape-long, shape-turn, shapely-next}

-- A piece that is begun at a place and has come to another.
abbrev pub begun : List ℕ → ℕ → ℕ → ℕ → Piece
begun l at end count = record { count = count; bytes = part l at (end - at) }

pub begun-none : (l : List ℕ) (at : ℕ) → pack (begun l at at 0) (fields_of (drop at l)) ≡ pieces_of (drop at l)
unfolding pieces_of
begun-none l at =
    let z : at - at ≡ 0 = omega arith in
    rw z

-- The field at the place is small, and what is behind it is shapely.
small-here : (l : List ℕ) (end n : ℕ) (e : n ≡ front field (drop end l)) → (n ≡ 0 → ⊥)
    → shapely (run_of field (drop end l)) ≡ true → n ≤ 4080
small-here l end n e z s = go (leb n 4080) refl (sym (shapely-next l end n e z) ∙ s)
  where
    go : (b : Bool) → leb n 4080 ≡ b
        → (ended (run_of field (drop (end + n) l)) && (b && all_small (run_of field (drop (end + n) l)).entries)) ≡ true
        → n ≤ 4080
    go true p q = leb-true n 4080 p
    go false p q = absurd (no (ended (run_of field (drop (end + n) l))) q)
      where
        no : (b : Bool) → (b && false) ≡ true → ⊥
        no true x = let y : ◌≡◌ {A = ℕ} 0 1 = cc in omega arith
        no false x = let y : ◌≡◌ {A = ℕ} 0 1 = cc in omega arith

module _ (l : List ℕ) (at end count n : ℕ) (e : n ≡ front field (drop end l)) (low : at ≤ end) (high : end ≤ length l)
    (few : count ≤ end - at) (room : end ≤ at + 4080)
    (s : shapely (run_of field (drop end l)) ≡ shapely (run_of field (drop at l)))
    (inv : pack (begun l at end count) (fields_of (drop end l)) ≡ pieces_of (drop at l)) where
  fits : n ≤ length l - end
  fits = entry-inside field some-field l end n e

  begun-length : length (part l at (end - at)) ≡ end - at
  begun-length = simp (length-take, length-drop) (omega arith)

  longer : part l at (end - at) ++ take n (drop end l) ≡ part l at (end + n - at)
  longer =
      let a : at + (end - at) ≡ end = omega arith in
      let b : end + n - at ≡ end - at + n = omega arith in
      rw b (sym
      (take-add (end - at) n (drop at l) ∙ ap (λ (r : List ℕ). part l at (end - at) ++ take n r)
      (drop-drop (end - at) at l ∙ ap (λ (k : ℕ). drop k l) a)))

  fields-next : (n ≡ 0 → ⊥) → fields_of (drop end l) ≡ take n (drop end l) ∷ fields_of (drop (end + n) l)
  fields-next z = ap (λ (r : Run). r.entries) (run-next field some-field l end n e z)

  pub cut-over : n ≡ 0 → NextPiece l at (record { end = end; count = count })
  cut-over z =
      let over : fields_of (drop end l) ≡ [] = ap (λ (r : Run). r.entries) (run-over field some-field l end n e z) in
      record {
        pieces = λ w. sym inv ∙ rw over;
        low = low;
        high = high;
        small = room;
        few = few;
        left = s;
        stuck = λ same h. sym (shape-over l end n e _ s z) ∙ lt-leb (length l) end h;
      }

  pub cut-full : (n ≡ 0 → ⊥) → 4080 < end + n - at → NextPiece l at (record { end = end; count = count })
  cut-full z h =
      record {
        pieces =
            λ w.
            let k : n ≤ 4080 = small-here l end n e z (s ∙ w) in
            sym inv ∙ rw (
              fields-next z,
              begun-length,
              entry_length field some-field l end n e,
              lt-leb (end - at + n) 4080
                  (omega arith),
              le-leb (0 + n) 4080 (omega arith),
            );
        low = low;
        high = high;
        small = room;
        few = few;
        left = s;
        stuck = λ same w. sym (shape-long l end n e _ s z (omega arith));
      }

  pub cut-turn : (n ≡ 0 → ⊥) → end + n - at ≤ 4080
      → pack (begun l at (end + n) (count + 1)) (fields_of (drop (end + n) l)) ≡ pieces_of (drop at l)
  cut-turn z h =
      rw (← longer)
      (rw (
        fields-next z,
        begun-length,
        entry_length field some-field l end n e,
        le-leb (end - at + n) 4080
            (omega arith),
      ) at inv)

  pub cut_left : (n ≡ 0 → ⊥) → end + n - at ≤ 4080
      → shapely (run_of field (drop (end + n) l)) ≡ shapely (run_of field (drop at l))
  cut_left z h = shape-turn l end n e _ s z (omega arith)
