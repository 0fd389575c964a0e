-- The walk over a message's fields, one field a turn. Assumes nothing.
use Prim.Native.Nat.{ℕ, ◌+◌, ◌-◌}
use mathlib.Core.Path.{◌≡◌, refl, sym, ap, ◌∙◌}
use mathlib.Core.Bool.{true, false, false≢true}
use mathlib.Core.List.{List, map}
use native.Mathlib.Omega.{arith}
use lib.ListN.{take, drop}
use Rattle.ftd.specs.Runs.{front, run_of}
use Rattle.ftd.specs.Fields.{field}
use Rattle.ftd.proofs.runs.Laws.{run-over, run-next}
use Rattle.ftd.proofs.fields.Turns.{some-field}
use Rattle.book.specs.declared.event.Event.{Event}
use Rattle.book.specs.declared.calls.Book.{Book}
use Rattle.book.specs.Types.{Outcome}
use Rattle.book.specs.declared.calls.Step.{Step}
use Rattle.book.specs.Event.{event_of}
use Rattle.book.specs.Calls.{applied, walked, done}
use Rattle.std.specs.Prelude.{Ok, Err, is_err}

module _ (code : List ℕ) (tid : ℕ) (l : List ℕ) (at n : ℕ) (e : n ≡ front field (drop at l)) (b : Book) (t : Step)
    (inv : walked b (map (event_of code tid) (run_of field (drop at l)).entries) ≡ t) where
  pub walk-over : n ≡ 0 → done b ≡ t
  walk-over z = rw (run-over field some-field l at n e z) at inv

  module _ (z : n ≡ 0 → ⊥) (v : Event) (q : v ≡ event_of code tid (take (at + n - at) (drop at l))) (s : Step)
      (f : s ≡ applied b v) where
    size : at + n - at ≡ n
    size = omega arith

    step : applied b (event_of code tid (take n (drop at l))) ≡ s
    step = sym (rw (q, size) at f)

    pub walk_refused : true ≡ is_err s.answer → s ≡ t
    walk_refused k = go s.answer refl k
      where
        answering : Outcome → Step
        answering x = record { book = s.book; answer = x }

        go : (x : Outcome) → s.answer ≡ x → true ≡ is_err x → s ≡ t
        go (Err r) a k = ap (λ (x : Outcome). answering x) a ∙ (rw (run-next field some-field l at n e z, step, a) at inv)
        go (Ok u) a k = absurd (false≢true (sym k))

    pub walk_turn : false ≡ is_err s.answer
        → walked s.book (map (event_of code tid) (run_of field (drop (at + n) l)).entries) ≡ t
    walk_turn k = go s.answer refl k
      where
        go : (x : Outcome) → s.answer ≡ x → false ≡ is_err x
            → walked s.book (map (event_of code tid) (run_of field (drop (at + n) l)).entries) ≡ t
        go (Err r) a k = absurd (false≢true k)
        go (Ok u) a k = rw (run-next field some-field l at n e z, step, a) at inv
