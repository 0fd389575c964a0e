-- The lines of a walk over several inputs, one turn after the other, over plain variables. Assumes nothing.
use Prim.Native.Nat.{ℕ, ◌+◌, ◌-◌, ◌<◌, ◌≤◌}
use mathlib.Core.Path.{◌≡◌, ap, ◌∙◌}
use mathlib.Core.List.{List, [], ◌++◌, append-nil}
use mathlib.Core.Option.{none, some}
use native.Mathlib.Omega.{arith}
use lib.ListN.{length, take, drop}
use Rattle.ftd.specs.Runs.{front, Run, run_of}
use Rattle.ftd.proofs.runs.Laws.{run-over, run-next, entry_length}
use Rattle.flow.specs.Ends.{Wrote}
use Rattle.flow.specs.Several.{Repeated, stop_or}
use Rattle.listing.specs.Text.{WroteText}
use Rattle.listing.proofs.Texts.{wrote-both, put-none}
use Rattle.play.specs.Several.{lines_over, several_lines}

-- What is still to be written behind `to` completes what is meant: whatever writes it makes the whole text.
unfoldable pub Completes : List ℕ → List ℕ → ℕ → List ℕ → List ℕ → Type 0
Completes text₀ text to rest all =
    (o : List ℕ) (end : ℕ) → WroteText text to rest o end → WroteText text₀ 0 all o end

part-size : (at n : ℕ) → at + n - at ≡ n
part-size at n = omega arith

module _ {E A B : Type 0} (R : Repeated E A B) (line : List ℕ → List ℕ → A → List ℕ) where
  pub lines_start : (e : E) (s l text : List ℕ)
      → Completes text text 0 (lines_over R line e l 0 (run_of R.form s)) (several_lines R line e s l)
  unfolding several_lines Completes
  lines_start e s l text o end w = w

  module _ (some-head : 0 < R.form.head) (s : List ℕ) (at n : ℕ) (m : n ≡ front R.form (drop at s)) (e : E)
      (l : List ℕ) where
    -- Nothing stands there whole.
    over : n ≡ 0 → lines_over R line e l at (run_of R.form (drop at s)) ≡ []
    over z = ap (λ (run : Run). lines_over R line e l at run) (run-over R.form some-head s at n m z)

    -- An input stands there: its line, and those behind it where the walk goes on.
    next : (n ≡ 0 → ⊥) →
        let r = R.call e (take n (drop at s)) l in
        lines_over R line e l at (run_of R.form (drop at s))
        ≡ line (take n (drop at s)) r.bytes r.answer ++ stop_or (R.stops at r.answer) (λ b. [])
        (lines_over R line r.end r.bytes (at + n) (run_of R.form (drop (at + n) s)))
    next z =
        ap (λ (run : Run). lines_over R line e l at run) (run-next R.form some-head s at n m z)
        ∙ ap (λ (k : ℕ).
        let r = R.call e (take n (drop at s)) l in
        line (take n (drop at s)) r.bytes r.answer ++ stop_or (R.stops at r.answer) (λ b. [])
        (lines_over R line r.end r.bytes (at + k) (run_of R.form (drop (at + n) s))))
        (entry_length R.form some-head s at n m)

    module _ (text₀ text : List ℕ) (to : ℕ) (all : List ℕ)
        (inv : Completes text₀ text to (lines_over R line e l at (run_of R.form (drop at s))) all) where
      pub lines_rest : n ≡ 0 → WroteText text₀ 0 all text to
      unfolding Completes
      lines_rest z =
          inv text to (rw (over z) (record { bytes = put-none text to; place = omega arith }))

      module _ (z : n ≡ 0 → ⊥) (r : Wrote E A) (c : r ≡ R.call e (take (at + n - at) (drop at s)) l)
          (text' : List ℕ) (to' : ℕ)
          (w : WroteText text to (line (take (at + n - at) (drop at s)) r.bytes r.answer) text' to') where
        here : lines_over R line e l at (run_of R.form (drop at s))
            ≡ line (take (at + n - at) (drop at s)) r.bytes r.answer ++ stop_or (R.stops at r.answer) (λ b. [])
            (lines_over R line r.end r.bytes (at + n) (run_of R.form (drop (at + n) s)))
        here = rw (c, part-size at n) (next z)

        pub lines-stop : (b : B) → R.stops at r.answer ≡ some b → WroteText text₀ 0 all text' to'
        unfolding Completes
        lines-stop b q =
            let k : lines_over R line e l at (run_of R.form (drop at s))
            ≡ line (take (at + n - at) (drop at s)) r.bytes r.answer ++ [] = rw q at here in
            inv text' to' (rw (k, append-nil) w)

        pub lines-on : to ≤ length text → R.stops at r.answer ≡ none
            → Completes text₀ text' to' (lines_over R line r.end r.bytes (at + n)
            (run_of R.form (drop (at + n) s))) all
        unfolding Completes
        lines-on h q o end v =
            let k : lines_over R line e l at (run_of R.form (drop at s))
            ≡ line (take (at + n - at) (drop at s)) r.bytes r.answer
            ++ lines_over R line r.end r.bytes (at + n) (run_of R.form (drop (at + n) s)) = rw q at here in
            inv o end (rw k (wrote-both h w v))
