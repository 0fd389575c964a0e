-- One turn of the walk over the fields, over plain variables. Assumes nothing.
use Prim.Native.Nat.{ℕ, ◌+◌, ◌-◌, ◌≤◌}
use mathlib.Core.Path.{◌≡◌, refl, sym}
use mathlib.Core.List.{List}
use mathlib.Core.Bool.{Bool, true, false}
use native.Mathlib.Omega.{arith}
use borrow.Author.Tests.{eq-eqb, ne_eqb, eqb-true, eqb-false}
use lib.ListN.{length, take, drop, length-drop}
use lib.Dec.{eqb}
use Rattle.fix.specs.Types.{Number}
use Rattle.fix.specs.declared.kinds.Kind.{Kind}
use Rattle.fix.specs.declared.fields.Last.{Last}
use Rattle.fix.specs.declared.tally.Tally.{Tally}
use Rattle.fix.specs.declared.tally.Walked.{Walked}
use Rattle.fix.specs.Text.{number_in, is_yes}
use Rattle.fix.specs.Fields.{last_of, no_last, front_of, Cut, cut_from, ended}
use Rattle.fix.specs.Tally.{no_tally, tallied_with, tallied_from, walked_of}
use Rattle.fix.proofs.fields.Cuts.{cut-over, text-part, cut-next}
use Rattle.std.specs.Prelude.{None}
use Rattle.fix.specs.Types.{MaybeFront, some_front}

-- What is still to be walked, behind a tally.
abbrev pub walked_from : Kind → Tally → Cut → Walked
walked_from kind t c = record { whole = ended c; tally = tallied_from kind t c.fields }

pub walk_start : (kind : Kind) (run : List ℕ) (last : Last) (t : Tally) → last ≡ no_last → t ≡ no_tally
    → walked_from kind t (cut_from last (drop 0 run)) ≡ walked_of kind run
unfolding walked_of
walk_start kind run last t a b = rw (a, b)

-- The place is the end where nothing is left.
at-end : (at n : ℕ) → at ≤ n → eqb at n ≡ eqb (n - at) 0
at-end at n h = go (eqb at n) refl
  where
    go : (b : Bool) → eqb at n ≡ b → b ≡ eqb (n - at) 0
    go true e = let q : at ≡ n = eqb-true at n e in sym (eq-eqb (n - at) 0 (omega (arith, q)))
    go false e = sym (ne_eqb (n - at) 0 (λ z. eqb-false at n e (omega (arith, z, h))))

module _ (kind : Kind) (last : Last) (run : List ℕ) (at : ℕ) (f : MaybeFront) (e : f ≡ front_of last (drop at run)) (t : Tally)
    (w : Walked) (inv : walked_from kind t (cut_from last (drop at run)) ≡ w) where
  pub walk-over : f ≡ None → at ≤ length run → record { whole = eqb at (length run); tally = t } ≡ w
  walk-over q h = rw (at-end at (length run) h) (rw (cut-over last run at f e q, length-drop) at inv)

  pub walk_turn : (tag start len : ℕ) → f ≡ some_front tag start len
      → (x : Number) → x ≡ number_in (take (at + start + len - (at + start)) (drop (at + start) run))
      → (says : Bool) → says ≡ is_yes (take (at + start + len - (at + start)) (drop (at + start) run))
      → (more : Tally) → more ≡ tallied_with kind t tag x says
      → (next : Last) → next ≡ last_of tag (take (at + start + len - (at + start)) (drop (at + start) run))
      → walked_from kind more (cut_from next (drop (at + start + len + 1) run)) ≡ w
  walk_turn tag start len q x a says b more c next d =
      rw (c, a, b, text-part last run at f e tag start len q)
      (rw (cut-next last run at f e tag start len q next d) at inv)
