-- Two lists of messages side by side: what each answer says of them. Assumes nothing.
use Prim.Native.Nat.{ℕ, zero, suc, ◌+◌}
use native.Mathlib.Omega.{arith}
use mathlib.Core.Path.{◌≡◌, refl, sym, ap, ◌∙◌}
use mathlib.Core.Logic.{◌↔◌}
use mathlib.Core.List.{List, [], ◌∷◌, ◌++◌}
use mathlib.Core.Bool.{Bool, true, false}
use mathlib.Core.Option.{some}
use borrow.Author.Tests.{eqb-true, eq-eqb}
use lib.ListN.{take, get_elem?}
use lib.Dec.{eqb}
use Rattle.ftd.specs.Bench.{same}
use Rattle.ftd.specs.declared.refusal.Refusal.{Refusal}
use Rattle.flow.specs.declared.order.Order.{Order}
use Rattle.flow.specs.declared.order.Order.TheVariants.{Same, FirstStarts, SecondStarts, Differ, Refused}
use Rattle.flow.specs.Ends.{◌when◌else◌}
use Rattle.flow.specs.Answers.{Message}
use Rattle.flow.specs.Order.{same_message, order_from, swapped, Start, ProperStart, DifferAt}
use Rattle.flow.proofs.common.Bools.{and_both, clash}
use Rattle.flow.proofs.common.Extends.{none-some}
use Rattle.flow.proofs.rewind.Names.{same-is, same_self}

-- ─── Messages, tested ───

pub message-is : (x y : Message) → same_message x y ≡ true → x ≡ y
message-is x y h =
    let p = and_both (eqb x.tid y.tid) (same x.content y.content) h in
    let e = eqb-true x.tid y.tid p.0 in
    let f = same-is x.content y.content p.1 in
    let g : ◌≡◌ {A = Message} (record { tid = x.tid; content = x.content })
    (record { tid = y.tid; content = y.content }) =
    rw (e, f) in
    g

pub message-self : (x : Message) → same_message x x ≡ true
message-self x = rw (eq-eqb x.tid x.tid refl, same_self x.content)

message-of : (x y : Message) → x ≡ y → same_message x y ≡ true
message-of x y q = rw q (message-self y)

message-not : (x y : Message) → (x ≡ y → ⊥) → same_message x y ≡ false
message-not x y n = go (same_message x y) refl
  where
    go : (b : Bool) → same_message x y ≡ b → same_message x y ≡ false
    go true q = absurd (n (message-is x y q))
    go false q = q

message-sym : (x y : Message) → same_message y x ≡ same_message x y
message-sym x y = go (same_message x y) refl
  where
    go : (b : Bool) → same_message x y ≡ b → same_message y x ≡ b
    go true q = message-of y x (sym (message-is x y q))
    go false q = message-not y x λ e. clash _ (message-of x y (sym e)) q

-- ─── What is seen ───

abbrev Differs : ℕ → List Message → List Message → Type 0
Differs i l m =
    (x : Message) × (y : Message) × (take i l ≡ take i m) × (get_elem? l i ≡ some x) × (get_elem? m i ≡ some y)
    × (x ≡ y → ⊥)

data Seen (k : ℕ) (l m : List Message) : Order → Type 0 where
  alike : l ≡ m → Seen k l m Same
  first : ProperStart l m → Seen k l m FirstStarts
  second : ProperStart m l → Seen k l m SecondStarts
  differs : (i n : ℕ) → n ≡ k + i → Differs i l m → Seen k l m (Differ n)

seen-behind : (k : ℕ) (x y : Message) (l m : List Message) (o : Order) → x ≡ y → Seen (suc k) l m o
    → Seen k (x ∷ l) (y ∷ m) o
seen-behind k x y l m o q (alike e) = alike (rw (q, e))
seen-behind k x y l m o q (first p) = first (p.0, p.1, rw (q, p.2))
seen-behind k x y l m o q (second p) = second (p.0, p.1, rw (← q, p.2))
seen-behind k x y l m o q (differs i n e p) =
    differs (suc i) n (omega arith) (p.0, p.1, rw (q, p.2), p.3, p.4, p.5)

seen : (k : ℕ) (l m : List Message) → Seen k l m (order_from k l m)
seen k [] [] = alike refl
seen k [] (y ∷ m) = first (y, m, refl)
seen k (x ∷ l) [] = second (x, l, refl)
seen k (x ∷ l) (y ∷ m) = go (same_message x y) refl (seen (suc k) l m)
  where
    go : (b : Bool) → same_message x y ≡ b → Seen (suc k) l m (order_from (suc k) l m)
        → Seen k (x ∷ l) (y ∷ m) (order_from (suc k) l m when b else Differ k)
    go true q h = seen-behind k x y l m _ (message-is x y q) h
    go false q h = differs 0 k (omega arith) (x, y, refl, refl, refl, λ e. clash _ (message-of x y e) q)

-- ─── Each answer ───

pub no : {A : Type 0} → ◌≡◌ {A = ℕ} 0 1 → A
no z = absurd (omega arith)

to_same : (k : ℕ) (l m : List Message) (o : Order) → Seen k l m o → o ≡ Same → l ≡ m
to_same k l m o (alike e) q = e
to_same k l m o (first p) q = no cc
to_same k l m o (second p) q = no cc
to_same k l m o (differs i n e p) q = no cc

to-first : (k : ℕ) (l m : List Message) (o : Order) → Seen k l m o → o ≡ FirstStarts → ProperStart l m
to-first k l m o (alike e) q = no cc
to-first k l m o (first p) q = p
to-first k l m o (second p) q = no cc
to-first k l m o (differs i n e p) q = no cc

to-second : (k : ℕ) (l m : List Message) (o : Order) → Seen k l m o → o ≡ SecondStarts → ProperStart m l
to-second k l m o (alike e) q = no cc
to-second k l m o (first p) q = no cc
to-second k l m o (second p) q = p
to-second k l m o (differs i n e p) q = no cc

to-differ : (l m : List Message) (o : Order) → Seen 1 l m o → (k : ℕ) → o ≡ Differ k → DifferAt l m k
to-differ l m o (alike e) k q = no cc
to-differ l m o (first p) k q = no cc
to-differ l m o (second p) k q = no cc
to-differ l m o (differs i n e p) k q =
    let z : n ≡ k = cc in
    record {
      before = i;
      number = omega arith;
      alike = p.2;
      first = p.0;
      second = p.1;
      in-first = p.3;
      in-second = p.4;
      differ = p.5;
    }

pub from-same : (k : ℕ) (l : List Message) → order_from k l l ≡ Same
from-same k [] = refl
from-same k (x ∷ l) = rw (message-self x) (from-same (suc k) l)

from_first : (k : ℕ) (l : List Message) (x : Message) (more : List Message)
    → order_from k l (l ++ (x ∷ more)) ≡ FirstStarts
from_first k [] x more = refl
from_first k (y ∷ l) x more = rw (message-self y) (from_first (suc k) l x more)

from_second : (k : ℕ) (l : List Message) (x : Message) (more : List Message)
    → order_from k (l ++ (x ∷ more)) l ≡ SecondStarts
from_second k [] x more = refl
from_second k (y ∷ l) x more = rw (message-self y) (from_second (suc k) l x more)

heads : (x y : Message) (l m : List Message) → x ∷ l ≡ y ∷ m → (x ≡ y) × (l ≡ m)
heads x y l m q = (cc, cc)

from-differ : (k i : ℕ) (l m : List Message) → Differs i l m → order_from k l m ≡ Differ (k + i)
from-differ k i [] m p = absurd (none-some p.0 p.3)
from-differ k i (x ∷ l) [] p = absurd (none-some p.1 p.4)
from-differ k zero (x ∷ l) (y ∷ m) p =
    let e : x ≡ p.0 = let z = p.3 in cc in
    let f : y ≡ p.1 = let z = p.4 in cc in
    let n : k ≡ k + 0 = omega arith in
    rw (message-not x y (λ q. p.5 (sym e ∙ q ∙ f))) (ap Differ n)
from-differ k (suc i) (x ∷ l) (y ∷ m) p =
    let h = heads x y (take i l) (take i m) p.2 in
    let n : suc k + i ≡ k + suc i = omega arith in
    rw (message-of x y h.0) (from-differ (suc k) i l m (p.0, p.1, h.1, p.3, p.4, p.5) ∙ ap Differ n)

pub same_lists : (l m : List Message) → (order_from 1 l m ≡ Same) ↔ (l ≡ m)
same_lists l m = (to_same 1 l m _ (seen 1 l m), λ q. rw q (from-same 1 m))

pub first-starts : (l m : List Message) → (order_from 1 l m ≡ FirstStarts) ↔ ProperStart l m
first-starts l m = (to-first 1 l m _ (seen 1 l m), λ p. rw p.2 (from_first 1 l p.0 p.1))

pub second-starts : (l m : List Message) → (order_from 1 l m ≡ SecondStarts) ↔ ProperStart m l
second-starts l m = (to-second 1 l m _ (seen 1 l m), λ p. rw p.2 (from_second 1 m p.0 p.1))

pub differ-at : (l m : List Message) (k : ℕ) → (order_from 1 l m ≡ Differ k) ↔ DifferAt l m k
differ-at l m k = (
  to-differ l m _ (seen 1 l m) k,
  λ d. from-differ 1 d.before l m (d.first, d.second, d.alike, d.in-first, d.in-second, d.differ)
      ∙ ap Differ (let q = d.number in omega arith),
)

-- ─── Exchanged ───

pub from-swapped : (k : ℕ) (l m : List Message) → order_from k m l ≡ swapped (order_from k l m)
from-swapped k [] [] = refl
from-swapped k [] (y ∷ m) = refl
from-swapped k (x ∷ l) [] = refl
from-swapped k (x ∷ l) (y ∷ m) =
    rw (message-sym x y) (go (same_message x y) (from-swapped (suc k) l m))
  where
    go : (b : Bool) → order_from (suc k) m l ≡ swapped (order_from (suc k) l m)
        → (order_from (suc k) m l when b else Differ k) ≡ swapped (order_from (suc k) l m when b else Differ k)
    go true e = e
    go false e = refl

-- ─── Two starts of one list ───

pub never-differ : (k : ℕ) (l m p : List Message) → Start l p → Start m p → (n : ℕ) → order_from k l m ≡ Differ n → ⊥
never-differ k [] [] p a b n q = no cc
never-differ k [] (y ∷ m) p a b n q = no cc
never-differ k (x ∷ l) [] p a b n q = no cc
never-differ k (x ∷ l) (y ∷ m) p a b n q =
    let h = heads x y (l ++ a.0) (m ++ b.0) (sym a.1 ∙ b.1) in
    never-differ (suc k) l m (l ++ a.0) (a.0, refl) (b.0, h.1) n (rw (message-of x y h.0) at q)

-- Two lists are never refused.
seen-refused : (k : ℕ) (l m : List Message) (o : Order) → Seen k l m o → (r : Refusal) → o ≡ Refused r → ⊥
seen-refused k l m o (alike e) r q = no cc
seen-refused k l m o (first p) r q = no cc
seen-refused k l m o (second p) r q = no cc
seen-refused k l m o (differs i n e p) r q = no cc

pub never-refused : (k : ℕ) (l m : List Message) (r : Refusal) → order_from k l m ≡ Refused r → ⊥
never-refused k l m r = seen-refused k l m (order_from k l m) (seen k l m) r
