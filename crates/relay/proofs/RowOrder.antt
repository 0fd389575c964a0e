-- The nodes of a row as serving ends: each one's log is sound, what a node published is a start of what any above it
-- did, and so the order of two of them. Assumes nothing.
use Prim.Native.Nat.{ℕ, zero, suc, ◌≤◌}
use native.Mathlib.Omega.{arith}
use mathlib.Core.Path.{◌≡◌, refl, sym, ap, ◌∙◌, subst}
use mathlib.Core.List.{List, [], ◌∷◌, ◌++◌}
use mathlib.Core.Logic.{◌⊎◌, inl, inr}
use mathlib.Core.Option.{some}
use lib.ListN.{take}
use Rattle.ftd.specs.declared.refusal.Refusal.TheVariants.{DamagedLog}
use Rattle.flow.specs.declared.order.Order.{Order}
use Rattle.flow.specs.declared.order.Order.TheVariants.{Same, FirstStarts, SecondStarts, Refused}
use Rattle.flow.specs.Answers.{Message}
use Rattle.flow.specs.World.{SenderSide}
use Rattle.flow.specs.Agreement.{of, reported}
use Rattle.flow.specs.Order.{logged, order_from, swapped}
use Rattle.flow.proofs.OrderLaws.{order-laws, no-damage, sides}
use Rattle.flow.proofs.source.Served.{ServedSide}
use Rattle.flow.proofs.order.Lists.{from-swapped}
use Rattle.flow.proofs.order.Made.{logged-published}
use Rattle.relay.specs.World.{line}
use Rattle.relay.specs.Row.{RowBox, serving_of, LastEnd, line_in}
use Rattle.relay.specs.RowAgreement.{Begins, OpenAt, order_at}
use Rattle.relay.proofs.Rows.{GoodRow}
use Rattle.relay.proofs.RowHalves.{timely-at, agreed-at}

-- ─── Starts ───

take_begins : (n : ℕ) (p : List Message) → Begins (take n p) p
take_begins zero p = (p, refl)
take_begins (suc n) [] = ([], refl)
take_begins (suc n) (x ∷ p) = let y = take_begins n p in (y.0, ap (λ (l : List Message). x ∷ l) y.1)

pub begins-by : (n : ℕ) (h p : List Message) → h ≡ take n p → Begins h p
begins-by n h p q = subst (λ (l : List Message). Begins l p) (sym q) (take_begins n p)

append-none : (l : List Message) → l ≡ l ++ []
append-none [] = refl
append-none (x ∷ l) = ap (λ (r : List Message). x ∷ r) (append-none l)

pub begins-self : (l : List Message) → Begins l l
begins-self l = ([], append-none l)

append-along : (a m k : List Message) → (a ++ m) ++ k ≡ a ++ (m ++ k)
append-along [] m k = refl
append-along (x ∷ a) m k = ap (λ (l : List Message). x ∷ l) (append-along a m k)

pub begins-along : (a b c : List Message) → Begins a b → Begins b c → Begins a c
begins-along a b c f g =
    (f.0 ++ g.0, g.1 ∙ ap (λ (l : List Message). l ++ g.0) f.1 ∙ append-along a f.0 g.0)

-- Of two starts of one list one is a start of the other.
pub two-starts : (a m b n p : List Message) → p ≡ a ++ m → p ≡ b ++ n → Begins a b ⊎ Begins b a
two-starts [] m b n p q r = inl (b, refl)
two-starts (x ∷ a) m [] n p q r = inr (x ∷ a, refl)
two-starts (x ∷ a) m (y ∷ b) n [] q r = let z : ◌≡◌ {A = ℕ} 0 1 = cc in absurd (omega arith)
two-starts (x ∷ a) m (y ∷ b) n (c ∷ p) q r =
    let f : x ≡ y = cc in
    let q' : p ≡ a ++ m = cc in
    let r' : p ≡ b ++ n = cc in
    go f (two-starts a m b n p q' r')
  where
    go : x ≡ y → Begins a b ⊎ Begins b a → Begins (x ∷ a) (y ∷ b) ⊎ Begins (y ∷ b) (x ∷ a)
    go f (inl e) = inl (e.0, rw f (ap (λ (l : List Message). y ∷ l) e.1))
    go f (inr e) = inr (e.0, rw f (ap (λ (l : List Message). y ∷ l) e.1))

-- ─── Two lists, one a start of the other ───

start-order : (l m : List Message) → Begins l m → (order_from 1 l m ≡ Same) ⊎ (order_from 1 l m ≡ FirstStarts)
start-order l m b = go b.0 b.1
  where
    go : (more : List Message) → m ≡ l ++ more → (order_from 1 l m ≡ Same) ⊎ (order_from 1 l m ≡ FirstStarts)
    go [] q = inl ((order-laws.same_lists l m).1 (append-none l ∙ sym q))
    go (x ∷ more) q = inr ((order-laws.first-starts l m).1 (x, more, q))

-- Exchanged, the second is the start.
abbrev InLine : Order → Type 0
InLine o = (o ≡ Same) ⊎ (o ≡ FirstStarts) ⊎ (o ≡ SecondStarts)

either_order : (l m : List Message) → Begins l m ⊎ Begins m l → InLine (order_from 1 l m)
either_order l m (inl b) = go (start-order l m b)
  where
    go : (order_from 1 l m ≡ Same) ⊎ (order_from 1 l m ≡ FirstStarts) → InLine (order_from 1 l m)
    go (inl q) = inl q
    go (inr q) = inr (inl q)
either_order l m (inr b) = go (start-order m l b)
  where
    swap : (o : Order) → order_from 1 m l ≡ o → order_from 1 l m ≡ swapped o
    swap o q = from-swapped 1 m l ∙ ap swapped q

    go : (order_from 1 m l ≡ Same) ⊎ (order_from 1 m l ≡ FirstStarts) → InLine (order_from 1 l m)
    go (inl q) = inl (swap Same q)
    go (inr q) = inr (inr (swap FirstStarts q))

-- ─── Two serving sides that are right ───

module _ (a b : SenderSide) (h : ServedSide a) (i : ServedSide b) (s : ℕ) where
  pub never-damaged : order_at s a b ≡ Refused DamagedLog → ⊥
  never-damaged = no-damage a b h i s

  module _ (d : ℕ) (x : OpenAt a s d) (y : OpenAt b s d) where
    pub lists-order : order_at s a b ≡ order_from 1 (of s d a.published) (of s d b.published)
    lists-order =
        order-laws.compares s a.end a.log b.end b.log (of s d a.published) (of s d b.published)
        (sides a b h i s d (sym h.same-day ∙ x.0) (sym i.same-day ∙ y.0) x.1 y.1)

    pub order-start : Begins (of s d a.published) (of s d b.published)
        → (order_at s a b ≡ Same) ⊎ (order_at s a b ≡ FirstStarts)
    order-start e =
        subst (λ (o : Order). (o ≡ Same) ⊎ (o ≡ FirstStarts)) (sym lists-order)
        (start-order (of s d a.published) (of s d b.published) e)

    pub order-either : Begins (of s d a.published) (of s d b.published)
        ⊎ Begins (of s d b.published) (of s d a.published) → InLine (order_at s a b)
    order-either e =
        subst InLine (sym lists-order) (either_order (of s d a.published) (of s d b.published) e)

-- ─── The nodes of a row ───

pub served-at : (x : SenderSide) (ns : List RowBox) (r : LastEnd) → GoodRow x ns r → (k : ℕ)
    → ServedSide (line_in x ns r k).serving
served-at x ns r g k = (timely-at x ns r g k).source.served

pub sound-at : (x : SenderSide) (ns : List RowBox) (r : LastEnd) → GoodRow x ns r → (k s d : ℕ) →
    let v = (line_in x ns r k).serving in
    OpenAt v s d → logged v.end v.log s ≡ some (of s d v.published)
sound-at x ns r g k s d o =
    let v = (line_in x ns r k).serving in
    let h = served-at x ns r g k in
    logged-published v h s d (sym h.same-day ∙ o.0) o.1

module _ (s d : ℕ) where
  -- What a box published is a start of what stands above it did.
  box-begins : (x : SenderSide) (n : RowBox) (ns : List RowBox) (r : LastEnd) → GoodRow x (n ∷ ns) r
      → Begins (of s d n.node.published) (of s d x.published)
  box-begins x n ns r g =
      begins-by (reported (line x n.node.receiving) s d) (of s d n.node.published) (of s d x.published)
      (ap (of s d) g.0.joint.1 ∙ (agreed-at s d x (n ∷ ns) r g 0).first)

  pub top-begins : (x : SenderSide) (ns : List RowBox) (r : LastEnd) → GoodRow x ns r → (k : ℕ)
      → Begins (of s d (line_in x ns r k).serving.published) (of s d x.published)
  top-begins x [] r g k = begins-self (of s d x.published)
  top-begins x (n ∷ ns) r g zero = begins-self (of s d x.published)
  top-begins x (n ∷ ns) r g (suc k) =
      begins-along (of s d (line_in (serving_of n) ns r k).serving.published) (of s d n.node.published)
      (of s d x.published) (top-begins (serving_of n) ns r g.2 k) (box-begins x n ns r g)

  pub above-begins : (x : SenderSide) (ns : List RowBox) (r : LastEnd) → GoodRow x ns r → (j k : ℕ) → j ≤ k
      → Begins (of s d (line_in x ns r k).serving.published) (of s d (line_in x ns r j).serving.published)
  above-begins x [] r g j k f = begins-self (of s d x.published)
  above-begins x (n ∷ ns) r g zero k f = top-begins x (n ∷ ns) r g k
  above-begins x (n ∷ ns) r g (suc j) zero f = absurd (omega arith)
  above-begins x (n ∷ ns) r g (suc j) (suc k) f = above-begins (serving_of n) ns r g.2 j k (omega arith)
