-- One turn of the shape check, over plain variables. Assumes nothing.
use Prim.Native.Nat.{ℕ, ◌+◌, ◌<◌, ◌≤◌}
use mathlib.Core.Path.{◌≡◌, refl, sym, ◌∙◌}
use mathlib.Core.List.{List}
use mathlib.Core.Bool.{Bool, true, false, ◌&&◌}
use borrow.Author.Tests.{le-leb, lt-leb, leb-true, leb-false}
use lib.ListN.{length, drop}
use lib.Dec.{leb, eqb}
use Rattle.ftd.specs.Runs.{front, run_of, ended}
use Rattle.ftd.specs.Fields.{field, all_small, shapely}
use Rattle.ftd.proofs.runs.Laws.{run-over, run-next, entry_length}
use Rattle.ftd.proofs.runs.Turns.{and-false, not-ended, is-ended}
use Rattle.ftd.proofs.fields.Turns.{some-field}

module _ (l : List ℕ) (at n : ℕ) (e : n ≡ front field (drop at l)) where
  -- The run is over: it is shapely where the bytes are at their end.
  shapely-over : n ≡ 0 → shapely (run_of field (drop at l)) ≡ leb (length l) at
  shapely-over z = rw (run-over field some-field l at n e z) (go (leb (length l) at) refl)
    where
      go : (b : Bool) → leb (length l) at ≡ b → (eqb (length (drop at l)) 0 && true) ≡ b
      go true p = rw (is-ended l at (leb-true (length l) at p))
      go false p = rw (not-ended l at (leb-false (length l) at p))

  -- A field goes on with the rest, if it is small enough.
  pub shapely-next : (n ≡ 0 → ⊥) → shapely
      (run_of field (drop at l)) ≡ (ended (run_of field (drop (at + n) l))
      && (leb n 4080 && all_small (run_of field (drop (at + n) l)).entries))
  shapely-next z = rw (run-next field some-field l at n e z, entry_length field some-field l at n e)

  module _ (t : Bool) (inv : shapely (run_of field (drop at l)) ≡ t) where
    pub shape-over : n ≡ 0 → leb (length l) at ≡ t
    shape-over z = sym (shapely-over z) ∙ inv

    pub shape-long : (n ≡ 0 → ⊥) → 4080 < n → false ≡ t
    shape-long z h =
        sym (and-false (ended (run_of field (drop (at + n) l)))) ∙ (rw (shapely-next z, lt-leb n 4080 h) at inv)

    pub shape-turn : (n ≡ 0 → ⊥) → n ≤ 4080 → shapely (run_of field (drop (at + n) l)) ≡ t
    shape-turn z h = rw (shapely-next z, le-leb n 4080 h) at inv
