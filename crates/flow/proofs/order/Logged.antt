-- What one walk reads off a log is what Send finds there, number by number; and it finds damage where Send of the last
-- one does. Assumes nothing.
use Prim.Native.Nat.{ℕ, zero, suc, ◌+◌, ◌<◌}
use native.Mathlib.Omega.{arith}
use mathlib.Core.Path.{◌≡◌, refl, sym, ap, ◌∙◌}
use mathlib.Core.Logic.{◌↔◌}
use mathlib.Core.List.{List, [], ◌∷◌}
use mathlib.Core.Bool.{Bool, true, false, cond}
use mathlib.Core.Option.{Option, none, some}
use borrow.Author.Tests.{eqb-true, eqb-false, eq-eqb, ne_eqb, not-false}
use lib.ListN.{length, get_elem?}
use lib.Dec.{eqb}
use Rattle.flow.specs.declared.sender.Sender.{Sender}
use Rattle.flow.specs.Ends.{◌when◌else◌, published_of}
use Rattle.flow.specs.Log.{entry_series, entry_number, times, strange_series, nonzero, misnumbered, misshapen}
use Rattle.flow.specs.Log.{is_wanted, walk, log_short, entries_of, entry_of}
use Rattle.flow.specs.Answers.{Message}
use Rattle.flow.specs.Order.{message_of, ahead, gather, logged, message_in}
use Rattle.flow.proofs.common.Bools.{and_both}
use Rattle.flow.proofs.common.Extends.{none-some}

-- ─── Damage ───

abbrev Both : {A B : Type 0} → Option A → Option B → Type 0
Both o p = (o ≡ none) ↔ (p ≡ none)

both-none : {A B : Type 0} → Both {A = A} {B = B} none none
both-none = ((λ q. refl), (λ q. refl))

both_some : {A B : Type 0} (x : A) (y : B) → Both (some x) (some y)
both_some x y = ((λ q. absurd (none-some x (sym q))), (λ q. absurd (none-some y (sym q))))

ahead_none : {B : Type 0} (b : Bool) (m : Message) (o : Option (List Message)) (p : Option B) → Both o p
    → Both (ahead b m o) p
ahead_none b m none p h = ((λ q. h.0 refl), (λ q. refl))
ahead_none b m (some l) p h =
    ((λ q. absurd (none-some _ (sym q))), (λ q. absurd (none-some l (sym (h.1 q)))))

gather-damaged : (e : Sender) (s n : ℕ) (earlier : List ℕ) (xs : List (List ℕ))
    → Both (gather e s n earlier xs) (walk e s n earlier xs)
gather-damaged e s n earlier [] = both-none
gather-damaged e s n earlier (x ∷ xs) =
    go (strange_series e x) (nonzero x) (misnumbered earlier x) (misshapen x) (is_wanted s n x)
    (gather-damaged e s n (entry_series x ∷ earlier) xs)
  where
    go : (a b c d f : Bool)
        → Both (gather e s n (entry_series x ∷ earlier) xs) (walk e s n (entry_series x ∷ earlier) xs) →
        Both
        (none when a else none when b else none when c else none when d else some (message_of x ∷ []) when f else
        ahead (eqb (entry_series x) s) (message_of x) (gather e s n (entry_series x ∷ earlier) xs))
        (none when a else none when b else none when c else none when d else some x when f else
        walk e s n (entry_series x ∷ earlier) xs)
    go true b c d f h = both-none
    go false true c d f h = both-none
    go false false true d f h = both-none
    go false false false true f h = both-none
    go false false false false true h = both_some (message_of x ∷ []) x
    go false false false false false h = ahead_none (eqb (entry_series x) s) (message_of x) _ _ h

-- ─── The list ───

-- Read from behind some entries: it reaches up to number n, and place i is what Send finds as number i + 1 more.
record Reads (e : Sender) (s n : ℕ) (earlier : List ℕ) (xs : List (List ℕ)) (l : List Message) : Type 0 where
  pub count : times s earlier + length l ≡ n
  pub some_one : 0 < length l
  pub each : (i : ℕ) → i < length l → message_in (walk e s (suc (times s earlier + i)) earlier xs) ≡ get_elem? l i

pub some_is : {A : Type 0} (x y : A) → some x ≡ some y → x ≡ y
some_is x y q = cc

-- An entry that passes the tests, in Send's walk.
pass : (e : Sender) (s k : ℕ) (earlier : List ℕ) (x : List ℕ) (xs : List (List ℕ))
    → strange_series e x ≡ false → nonzero x ≡ false → misnumbered earlier x ≡ false → misshapen x ≡ false
    → walk e s k earlier (x ∷ xs) ≡ (some x when is_wanted s k x else walk e s k (entry_series x ∷ earlier) xs)
pass e s k earlier x xs a b c d = rw (a, b, c, d)

module _ (e : Sender) (s n : ℕ) (earlier : List ℕ) (x : List ℕ) (xs : List (List ℕ))
    (number : entry_number x ≡ suc (times (entry_series x) earlier))
    (passes : (k : ℕ) → walk e s k earlier (x ∷ xs)
    ≡ (some x when is_wanted s k x else walk e s k (entry_series x ∷ earlier) xs)) where
  -- It is the one wanted.
  here : (k : ℕ) → entry_series x ≡ s → k ≡ suc (times s earlier) → message_in (walk e s k earlier (x ∷ xs))
      ≡ some (message_of x)
  here k q r =
      let a = eq-eqb (entry_series x) s q in
      let b = eq-eqb (entry_number x) k (number ∙ ap (λ (t : ℕ). suc (times t earlier)) q ∙ sym r) in
      let w : walk e s k earlier (x ∷ xs) ≡ some x = passes k ∙ rw (a, b) in
      ap message_in w

  -- It is of the series, and another one is wanted.
  on : (k : ℕ) → entry_series x ≡ s → (k ≡ suc (times s earlier) → ⊥) → walk e s k earlier (x ∷ xs)
      ≡ walk e s k (s ∷ earlier) xs
  on k q r =
      let a = eq-eqb (entry_series x) s q in
      let b = ne_eqb (entry_number x) k
      (λ f. r (sym f ∙ number ∙ ap (λ (t : ℕ). suc (times t earlier)) q)) in
      passes k ∙ rw (a, b) (ap (λ (t : ℕ). walk e s k (t ∷ earlier) xs) q)

  -- It is of another series.
  past : (k : ℕ) → (entry_series x ≡ s → ⊥) → walk e s k earlier (x ∷ xs) ≡ walk e s k (entry_series x ∷ earlier) xs
  past k q = let a = ne_eqb (entry_series x) s q in passes k ∙ rw a

  last_one : entry_series x ≡ s → entry_number x ≡ n → Reads e s n earlier (x ∷ xs) (message_of x ∷ [])
  last_one q r =
      record {
        count = omega (arith, number, r, ap (λ (t : ℕ). times t earlier) q);
        some_one = omega arith;
        each = λ i h. each i h;
      }
    where
      each : (i : ℕ) → i < 1 → message_in (walk e s (suc (times s earlier + i)) earlier (x ∷ xs))
          ≡ get_elem? (message_of x ∷ []) i
      each zero h = here (suc (times s earlier + 0)) q (omega arith)
      each (suc i) h = absurd (omega arith)

  one_more : entry_series x ≡ s → (l : List Message) → Reads e s n (s ∷ earlier) xs l
      → Reads e s n earlier (x ∷ xs) (message_of x ∷ l)
  one_more q l r =
      let c : times s (s ∷ earlier) + length l ≡ n = r.count in
      record {
        count = omega (arith, c, again);
        some_one = omega arith;
        each = λ i h. each i h;
      }
    where
      again : times s (s ∷ earlier) ≡ suc (times s earlier)
      again = rw (eq-eqb s s refl)

      each : (i : ℕ) → i < suc (length l) → message_in (walk e s (suc (times s earlier + i)) earlier (x ∷ xs))
          ≡ get_elem? (message_of x ∷ l) i
      each zero h = here (suc (times s earlier + 0)) q (omega arith)
      each (suc i) h =
          let k : suc (times s earlier + suc i) ≡ suc (times s (s ∷ earlier) + i) = omega (arith, again) in
          ap message_in (on (suc (times s earlier + suc i)) q (λ z. omega arith))
          ∙ ap (λ (j : ℕ). message_in (walk e s j (s ∷ earlier) xs)) k ∙ r.each i (omega arith)

  no_more : (entry_series x ≡ s → ⊥) → (l : List Message) → Reads e s n (entry_series x ∷ earlier) xs l
      → Reads e s n earlier (x ∷ xs) l
  no_more q l r =
      record {
        count = rw (← still) r.count;
        some_one = r.some_one;
        each = λ i h. ap message_in (past (suc (times s earlier + i)) q)
            ∙ ap (λ (j : ℕ). message_in (walk e s (suc (j + i)) (entry_series x ∷ earlier) xs)) (sym still)
            ∙ r.each i h;
      }
    where
      still : times s (entry_series x ∷ earlier) ≡ times s earlier
      still = rw (ne_eqb (entry_series x) s q)

-- Of the series by its number.
moved : (e : Sender) (s n t : ℕ) (earlier : List ℕ) (xs : List (List ℕ)) (l : List Message) → t ≡ s
    → Reads e s n (t ∷ earlier) xs l → Reads e s n (s ∷ earlier) xs l
moved e s n t earlier xs l z r = rw z at r

pub suc-not : (n : ℕ) → eqb (suc n) 0 ≡ false
suc-not n = ne_eqb (suc n) 0 λ z. omega arith

pub ahead-some : (b : Bool) (m : Message) (o : Option (List Message)) (l : List Message) → ahead b m o ≡ some l
    → (r : List Message) × (o ≡ some r) × (l ≡ cond b (m ∷ r) r)
ahead-some b m none l q = absurd (none-some l q)
ahead-some b m (some r) l q = (r, refl, sym (some_is (cond b (m ∷ r) r) l q))

gathered : (e : Sender) (s n : ℕ) (earlier : List ℕ) (xs : List (List ℕ)) (l : List Message)
    → gather e s n earlier xs ≡ some l → Reads e s n earlier xs l
gathered e s n earlier [] l q = absurd (none-some l q)
gathered e s n earlier (x ∷ xs) l q =
    go (strange_series e x) refl (nonzero x) refl (misnumbered earlier x) refl (misshapen x) refl (is_wanted s n x) refl
    (gathered e s n (entry_series x ∷ earlier) xs) q
  where
    rest : (entry_number x ≡ suc (times (entry_series x) earlier))
        → ((k : ℕ) → walk e s k earlier (x ∷ xs)
        ≡ (some x when is_wanted s k x else walk e s k (entry_series x ∷ earlier) xs))
        → (b : Bool) → eqb (entry_series x) s ≡ b
        → ((r : List Message) → gather e s n (entry_series x ∷ earlier) xs ≡ some r
        → Reads e s n (entry_series x ∷ earlier) xs r)
        → ahead b (message_of x) (gather e s n (entry_series x ∷ earlier) xs) ≡ some l → Reads e s n earlier (x ∷ xs) l
    rest number passes true h more r =
        let f = ahead-some true (message_of x) (gather e s n (entry_series x ∷ earlier) xs) l r in
        let z : entry_series x ≡ s = eqb-true (entry_series x) s h in
        let g = more f.0 f.1 in
        rw f.2 (one_more e s n earlier x xs number passes z f.0
        (moved e s n (entry_series x) earlier xs f.0 z g))
    rest number passes false h more r =
        let f = ahead-some false (message_of x) (gather e s n (entry_series x ∷ earlier) xs) l r in
        let g = more f.0 f.1 in
        rw f.2 (no_more e s n earlier x xs number passes (eqb-false (entry_series x) s h) f.0 g)

    go : (a : Bool) → strange_series e x ≡ a → (b : Bool) → nonzero x ≡ b → (c : Bool) → misnumbered earlier x ≡ c
        → (d : Bool) → misshapen x ≡ d → (f : Bool) → is_wanted s n x ≡ f
        → ((r : List Message) → gather e s n (entry_series x ∷ earlier) xs ≡ some r
        → Reads e s n (entry_series x ∷ earlier) xs r)
        → (none when a else none when b else none when c else none when d else some (message_of x ∷ []) when f else
        ahead (eqb (entry_series x) s) (message_of x) (gather e s n (entry_series x ∷ earlier) xs)) ≡ some l
        → Reads e s n earlier (x ∷ xs) l
    go true qa b qb c qc d qd f qf more r = absurd (none-some l r)
    go false qa true qb c qc d qd f qf more r = absurd (none-some l r)
    go false qa false qb true qc d qd f qf more r = absurd (none-some l r)
    go false qa false qb false qc true qd f qf more r = absurd (none-some l r)
    go false qa false qb false qc false qd true qf more r =
        let w = and_both (eqb (entry_series x) s) (eqb (entry_number x) n) qf in
        let number = eqb-true (entry_number x) _ (not-false _ qc) in
        rw (← (some_is (message_of x ∷ []) l r))
        (last_one e s n earlier x xs number (λ k. pass e s k earlier x xs qa qb qc qd)
        (eqb-true (entry_series x) s w.0) (eqb-true (entry_number x) n w.1))
    go false qa false qb false qc false qd false qf more r =
        let number = eqb-true (entry_number x) _ (not-false _ qc) in
        rest number (λ k. pass e s k earlier x xs qa qb qc qd) (eqb (entry_series x) s) refl more r

-- ─── Of an end and its log ───

module _ (e : Sender) (log : List ℕ) (s : ℕ) where
  pub logged-damaged : (logged e log s ≡ none)
      ↔ ((0 < published_of e s) × (entry_of e log s (published_of e s) ≡ none))
  unfolding logged entry_of
  logged-damaged = go (published_of e s) refl (log_short e log)
    where
      go : (n : ℕ) → published_of e s ≡ n → (b : Bool) →
          ((some [] when eqb n 0 else none when b else gather e s n [] (entries_of e log)) ≡ none)
          ↔ ((0 < n) × ((none when b else walk e s n [] (entries_of e log)) ≡ none))
      go zero q b = ((λ r. absurd (none-some _ (sym r))), (λ r. absurd (let z = r.0 in omega arith)))
      go (suc n) q true = rw (suc-not n) ((λ r. (omega arith, refl)), (λ r. refl))
      go (suc n) q false =
          let h = gather-damaged e s (suc n) [] (entries_of e log) in
          rw (suc-not n) ((λ r. (omega arith, h.0 r)), (λ r. h.1 r.1))

  pub logged-reads : (l : List Message) → logged e log s ≡ some l →
      (length l ≡ published_of e s)
      × ((i : ℕ) → i < length l → message_in (entry_of e log s (suc i)) ≡ get_elem? l i)
  unfolding logged entry_of
  logged-reads l = go (published_of e s) (log_short e log)
    where
      go : (n : ℕ) (b : Bool) →
          (some [] when eqb n 0 else none when b else gather e s n [] (entries_of e log)) ≡ some l →
          (length l ≡ n) × ((i : ℕ) → i < length l
          → message_in (none when b else walk e s (suc i) [] (entries_of e log)) ≡ get_elem? l i)
      go zero b q =
          let z : [] ≡ l = some_is [] l q in
          rw (← z) (refl, λ i h. absurd (omega arith))
      go (suc n) true q = absurd (none-some l (rw (suc-not n) at q))
      go (suc n) false q =
          let r = gathered e s (suc n) [] (entries_of e log) l (rw (suc-not n) at q) in
          let c = r.count in (
            omega arith,
            λ i h.
                let z : suc i ≡ suc (0 + i) = omega arith in
                ap (λ (j : ℕ). message_in (walk e s j [] (entries_of e log))) z ∙ r.each i h,
          )
