-- One turn of the walk to the next entry of a series, and one turn of the walk of both logs side by side; over plain
-- variables. Assumes nothing.
use Prim.Native.Nat.{ℕ, zero, suc, ◌+◌, ◌-◌, ◌<◌, ◌≤◌}
use mathlib.Core.Path.{◌≡◌, refl, sym, ap, ◌∙◌}
use mathlib.Core.List.{List, [], ◌∷◌}
use mathlib.Core.Bool.{Bool, true, false}
use native.Mathlib.Omega.{arith}
use native.Mathlib.Nat.{add-zero}
use borrow.Author.Tests.{eq-eqb, ne_eqb}
use lib.ListN.{take, drop}
use Rattle.ftd.specs.Bytes.{be16_of, part}
use Rattle.ftd.specs.Runs.{front, Run, run_of}
use Rattle.ftd.proofs.runs.Laws.{run-over, run-next, entry-inside, entry-head}
use Rattle.ftd.proofs.runs.Turns.{entry-byte}
use Rattle.flow.specs.declared.order.Order.{Order}
use Rattle.flow.specs.declared.order.Order.TheVariants.{Differ}
use Rattle.flow.specs.Ends.{◌when◌else◌}
use Rattle.flow.specs.Log.{entry, entry_series}
use Rattle.flow.specs.Answers.{Message}
use Rattle.flow.specs.Order.{message_of, same_message, order_from}
use Rattle.flow.specs.OrderHelpers.{of_series, messages_in, NextIn}
use Rattle.flow.proofs.log.Heads.{part-size}
use Rattle.flow.proofs.log.Walked.{some-entry}
use Rattle.flow.specs.Types.{MaybeEntry, some_entry}

-- ─── To the next entry of a series ───

-- The series of an entry, read where it lies.
series-at : (l : List ℕ) (at n : ℕ) → 16 ≤ n → entry_series (take n (drop at l)) ≡ be16_of l at
unfolding be16_of
series-at l at n h =
    rw (entry-byte l at n 0 (omega arith), entry-byte l at n 1 (omega arith), add-zero at)

-- One of the first n in front.
taken : (n : ℕ) (x : Message) (l : List Message) → 0 < n → take n (x ∷ l) ≡ x ∷ take (n - 1) l
taken zero x l h = absurd (omega arith)
taken (suc n) x l h = let z : suc n - 1 ≡ n = omega arith in rw z

pub none_left : (n : ℕ) (l : List Message) → n ≡ 0 → take n l ≡ []
none_left n l z = rw z

take_none : (n : ℕ) → take {A = Message} n [] ≡ []
take_none zero = refl
take_none (suc n) = refl

module _ (l : List ℕ) (s left at n : ℕ) (m : n ≡ front entry (drop at l)) (o : List Message)
    (inv : take left (messages_in s (drop at l)) ≡ o) where
  pub next-over : n ≡ 0 → o ≡ []
  unfolding messages_in
  next-over z =
      sym inv ∙ ap (λ (r : Run). take left (of_series s r.entries)) (run-over entry some-entry l at n m z)
      ∙ take_none left

  module _ (z : n ≡ 0 → ⊥) where
    pub next-long : 16 ≤ n
    unfolding entry
    next-long = entry-head entry some-entry l at n m z

    opened : o ≡ take left (of_series s (take n (drop at l) ∷ (run_of entry (drop (at + n) l)).entries))
    unfolding messages_in
    opened =
        sym inv ∙ ap (λ (r : Run). take left (of_series s r.entries)) (run-next entry some-entry l at n m z)

    -- It is of the series.
    pub next_here : (left ≡ 0 → ⊥) → (t : ℕ) → t ≡ be16_of l at → t ≡ s → NextIn o s left l (some_entry at n)
    unfolding messages_in
    next_here y t a e =
        let q = eq-eqb (entry_series (take n (drop at l))) s (series-at l at n next-long ∙ sym a ∙ e) in
        let p : 0 < left = omega arith in (
          (rw q at opened) ∙ taken left (message_of (take n (drop at l))) _ p,
          next-long,
          omega (arith, entry-inside entry some-entry l at n m, next-long),
          p,
        )

    -- It is of another one.
    pub next_past : (t : ℕ) → t ≡ be16_of l at → (t ≡ s → ⊥) → take left (messages_in s (drop (at + n) l)) ≡ o
    unfolding messages_in
    next_past t a e =
        let q = ne_eqb (entry_series (take n (drop at l))) s
        (λ f. e (a ∙ sym (series-at l at n next-long) ∙ f)) in
        sym (rw q at opened)

-- ─── Both logs ───

-- Where an entry lies, of a next one that is there.
module _ (o : List Message) (s n : ℕ) (l : List ℕ) (r : MaybeEntry) (start size : ℕ) (c : NextIn o s n l r)
    (q : r ≡ some_entry start size) where
  pub next-at : NextIn o s n l (some_entry start size)
  next-at = rw q at c

-- It was one of those left.
module _ (o : List Message) (s first k : ℕ) (l : List ℕ) (r : MaybeEntry) (start size : ℕ)
    (c : NextIn o s (first - k) l r) (q : r ≡ some_entry start size) where
  pub next-left : k + 1 ≤ first
  next-left = omega (arith, (next-at o s (first - k) l r start size c q).3)

-- Both from their first entries on.
pub both-begin : (s first second : ℕ) (l m : List ℕ)
    → order_from (suc 0) (take (first - 0) (messages_in s (drop 0 l))) (take (second - 0) (messages_in s (drop 0 m)))
    ≡ order_from 1 (take first (messages_in s l)) (take second (messages_in s m))
both-begin s first second l m =
    let f : first - 0 ≡ first = omega arith in
    let g : second - 0 ≡ second = omega arith in
    rw (f, g)

module _ (s first second k : ℕ) (l m : List ℕ) (at to : ℕ) (o : Order)
    (inv : order_from (suc k) (take (first - k) (messages_in s (drop at l)))
    (take (second - k) (messages_in s (drop to m)))
    ≡ o)
    (x y : MaybeEntry) (c : NextIn (take (first - k) (messages_in s (drop at l))) s (first - k) l x)
    (d : NextIn (take (second - k) (messages_in s (drop to m))) s (second - k) m y) where
  module _ (start size : ℕ) (p : x ≡ some_entry start size) where
    module _ (begin width : ℕ) (q : y ≡ some_entry begin width) (b : Bool)
        (e : b ≡ same_message (message_of (take (start + size - start) (drop start l)))
        (message_of (take (begin + width - begin) (drop begin m)))) where
      here : same_message (message_of (part l start size)) (message_of (part m begin width)) ≡ b
      here = sym (rw (part-size start size, part-size begin width) at e)

      both : (order_from (suc (suc k)) (take (first - k - 1) (messages_in s (drop (start + size) l)))
          (take (second - k - 1) (messages_in s (drop (begin + width) m)))
          when b else Differ (suc k)) ≡ o
      both =
          let f = (next-at _ s _ l x start size c p).0 in
          let g = (next-at _ s _ m y begin width d q).0 in
          rw (f, g, here) at inv

      pub they_differ : b ≡ false → Differ (k + 1) ≡ o
      they_differ z =
          let n : k + 1 ≡ suc k = omega arith in
          rw n (rw z at both)

      pub they-agree : b ≡ true
          → order_from (suc (k + 1)) (take (first - (k + 1)) (messages_in s (drop (start + size) l)))
          (take (second - (k + 1)) (messages_in s (drop (begin + width) m))) ≡ o
      they-agree z =
          let n : k + 1 ≡ suc k = omega arith in
          let f : first - (k + 1) ≡ first - k - 1 = omega arith in
          let g : second - (k + 1) ≡ second - k - 1 = omega arith in
          rw (f, g, n) (rw z at both)
