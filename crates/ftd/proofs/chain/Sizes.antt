-- One turn of the measuring, over plain variables. Assumes nothing.
use Prim.Native.Nat.{ℕ, ◌+◌, ◌-◌}
use mathlib.Core.Path.{◌≡◌, refl, sym, ◌∙◌}
use mathlib.Core.List.{List}
use mathlib.Core.Bool.{true}
use native.Mathlib.Omega.{arith}
use lib.ListN.{length, drop}
use Rattle.ftd.specs.Runs.{run_of}
use Rattle.ftd.specs.Fields.{field, shapely}
use Rattle.ftd.specs.Chain.{pieces_of}
use Rattle.ftd.specs.Chain.Helpers.{NextPiece, size_of, measure_of}
use Rattle.ftd.specs.declared.refusal.Refusal.TheVariants.{FieldRun}
use Rattle.ftd.specs.declared.chain.Cut.{Cut}
use Rattle.ftd.proofs.chain.Pieces.{whole-last, broken-here, count-more, count-last, size-more, size-last, below}
use Rattle.std.specs.Prelude.{Ok, Err}

-- Up to a place so many pieces of so many bytes: what is left is as shapely as all of it, and where that is shapely,
-- its pieces are missing.
pub record Counted (l : List ℕ) (tags at packets bytes : ℕ) : Type 0 where
  pub same : shapely (run_of field (drop at l)) ≡ shapely (run_of field l)
  pub count : shapely (run_of field (drop at l)) ≡ true → packets + length (pieces_of (drop at l)) ≡ length (pieces_of l)
  pub size : shapely (run_of field (drop at l)) ≡ true
      → bytes + size_of tags (pieces_of (drop at l)) ≡ size_of tags (pieces_of l)

pub counted_none : (l : List ℕ) (tags : ℕ) → Counted l tags 0 0 0
counted_none l tags = record { same = refl; count = λ s. omega arith; size = λ s. omega arith }

module _ (l : List ℕ) (tags at packets bytes : ℕ) (c : Cut) (next : NextPiece l at c)
    (k : Counted l tags at packets bytes) where
  pub counted-last : c.end ≡ length l
      → Ok (record { packets = packets + 1; bytes = bytes + (4 + tags + (16 + (c.end - at))) }) ≡ measure_of tags l
  unfolding measure_of
  counted-last h =
      let s = whole-last l at c next h in
      let p : packets + 1 ≡ length (pieces_of l) = omega (arith, k.count s, count-last l at c next s h) in
      let b : bytes + (4 + tags + (16 + (c.end - at))) ≡ size_of tags (pieces_of l) =
      omega (arith, k.size s, size-last l at c next s tags h) in
      rw (← k.same, s, p, b)

  pub counted-broken : (c.end ≡ length l → ⊥) → c.end ≡ at → Err FieldRun ≡ measure_of tags l
  unfolding measure_of
  counted-broken h e = rw (← k.same, broken-here l at c next e h)

  pub counted-turn : (c.end ≡ length l → ⊥)
      → Counted l tags c.end (packets + 1) (bytes + (4 + tags + (16 + (c.end - at))))
  counted-turn h =
      let low = below c.end (length l) next.high h in
      record {
        same = next.left ∙ k.same;
        count = λ s. let w = sym next.left ∙ s in omega (arith, k.count w, count-more l at c next w low);
        size = λ s. let w = sym next.left ∙ s in omega (arith, k.size w, size-more l at c next w tags low);
      }
