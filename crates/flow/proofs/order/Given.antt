-- Which answer the order gives, by its tests: each refusal exactly if, and no other one. Assumes nothing.
use Prim.Native.Nat.{ℕ}
use mathlib.Core.Path.{◌≡◌, refl, sym, ap, ◌∙◌}
use mathlib.Core.Logic.{◌⊎◌, inl, inr, ◌↔◌}
use mathlib.Core.List.{List}
use mathlib.Core.Bool.{Bool, true, false, not, ◌||◌}
use mathlib.Core.Option.{Option, none, some}
use borrow.Author.Tests.{eqb-true, eq-eqb, not-false}
use lib.Dec.{eqb}
use Rattle.ftd.specs.declared.refusal.Refusal.{Refusal}
use Rattle.ftd.specs.declared.refusal.Refusal.TheVariants.{UnknownSeries, OtherDay, DamagedLog}
use Rattle.ftd.specs.Types.{TradeDate}
use Rattle.flow.specs.declared.sender.Sender.{Sender}
use Rattle.flow.specs.declared.order.Order.{Order}
use Rattle.flow.specs.declared.order.Order.TheVariants.{Refused}
use Rattle.flow.specs.Ends.{◌when◌else◌, is_served}
use Rattle.flow.specs.Answers.{Message}
use Rattle.flow.specs.Order.{logged, order_from, order_read, other_date, order_of, FindsDamage, Compares}
use Rattle.flow.proofs.common.Bools.{clash}
use Rattle.flow.proofs.order.Lists.{no, never-refused}
use Rattle.flow.proofs.order.Logged.{logged-damaged}
use Rattle.std.specs.Prelude.{Some, None}

-- ─── Trade dates ───

pub date-is : (a b : TradeDate) → other_date a b ≡ false → a ≡ b
date-is None None q = refl
date-is None (Some e) q = clash _ refl q
date-is (Some d) None q = clash _ refl q
date-is (Some d) (Some e) q = ap Some (eqb-true d e (not-false (eqb d e) q))

pub date-self : (a : TradeDate) → other_date a a ≡ false
date-self None = refl
date-self (Some d) = rw (eq-eqb d d refl)

pub date-same : (a b : TradeDate) → a ≡ b → other_date a b ≡ false
date-same a b q = ap (other_date a) (sym q) ∙ date-self a

date-other : (a b : TradeDate) → (a ≡ b → ⊥) → other_date a b ≡ true
date-other a b n = go (other_date a b) refl
  where
    go : (t : Bool) → other_date a b ≡ t → t ≡ true
    go true q = refl
    go false q = absurd (n (date-is a b q))

pub date-sym : (a b : TradeDate) → other_date b a ≡ other_date a b
date-sym a b = go (other_date a b) refl
  where
    go : (x : Bool) → other_date a b ≡ x → other_date b a ≡ x
    go true p = date-other b a λ q. clash _ p (date-same a b (sym q))
    go false p = date-same b a (sym (date-is a b p))

-- ─── By the tests ───

module _ (s : ℕ) (a : Sender) (log : List ℕ) (b : Sender) (other : List ℕ) where
  -- Open at both, on one day.
  abbrev OneDay : Type 0
  OneDay = (is_served a s ≡ true) × (is_served b s ≡ true) × (a.day.date ≡ b.day.date)

  data Given : Order → Type 0 where
    strange : (is_served a s ≡ false) ⊎ (is_served b s ≡ false) → Given (Refused UnknownSeries)
    dated : is_served a s ≡ true → is_served b s ≡ true → (a.day.date ≡ b.day.date → ⊥) → Given (Refused OtherDay)
    broken : OneDay → FindsDamage a log s ⊎ FindsDamage b other s → Given (Refused DamagedLog)
    read : (l m : List Message) → Compares s a log b other l m → Given (order_from 1 l m)

  given : Given (order_of s a log b other)
  unfolding order_of
  given = go (is_served a s) refl (is_served b s) refl (other_date a.day.date b.day.date) refl
    where
      both : OneDay → (o p : Option (List Message)) → logged a log s ≡ o → logged b other s ≡ p → Given (order_read o p)
      both d none p f g = broken d (inl ((logged-damaged a log s).0 f))
      both d (some l) none f g = broken d (inr ((logged-damaged b other s).0 g))
      both d (some l) (some m) f g =
          read l m (record { first-open = d.0; second-open = d.1; day = d.2; first = f; second = g })

      go : (x : Bool) → is_served a s ≡ x → (y : Bool) → is_served b s ≡ y
          → (z : Bool) → other_date a.day.date b.day.date ≡ z →
          Given
          (Refused UnknownSeries when not x || not y else Refused OtherDay when z else
          order_read (logged a log s) (logged b other s))
      go false p y q z r = strange (inl p)
      go true p false q z r = strange (inr q)
      go true p true q true r = dated p q λ d. clash _ r (date-same a.day.date b.day.date d)
      go true p true q false r =
          both (p, q, date-is a.day.date b.day.date r) (logged a log s) (logged b other s) refl refl

  to-unknown : (o : Order) → Given o → o ≡ Refused UnknownSeries → (is_served a s ≡ false) ⊎ (is_served b s ≡ false)
  to-unknown o (strange p) q = p
  to-unknown o (dated x y d) q = no cc
  to-unknown o (broken d p) q = no cc
  to-unknown o (read l m c) q = absurd (never-refused 1 l m UnknownSeries q)

  to-other : (o : Order) → Given o → o ≡ Refused OtherDay
      → (is_served a s ≡ true) × (is_served b s ≡ true) × (a.day.date ≡ b.day.date → ⊥)
  to-other o (strange p) q = no cc
  to-other o (dated x y d) q = (x, y, d)
  to-other o (broken d p) q = no cc
  to-other o (read l m c) q = absurd (never-refused 1 l m OtherDay q)

  to-damaged : (o : Order) → Given o → o ≡ Refused DamagedLog
      → (is_served a s ≡ true) × (is_served b s ≡ true) × (a.day.date ≡ b.day.date)
      × (FindsDamage a log s ⊎ FindsDamage b other s)
  to-damaged o (strange p) q = no cc
  to-damaged o (dated x y d) q = no cc
  to-damaged o (broken d p) q = (d.0, d.1, d.2, p)
  to-damaged o (read l m c) q = absurd (never-refused 1 l m DamagedLog q)

  which : (o : Order) → Given o → (r : Refusal) → o ≡ Refused r
      → (r ≡ UnknownSeries) ⊎ ((r ≡ OtherDay) ⊎ (r ≡ DamagedLog))
  which o (strange p) r q = inl cc
  which o (dated x y d) r q = inr (inl cc)
  which o (broken d p) r q = inr (inr cc)
  which o (read l m c) r q = absurd (never-refused 1 l m r q)

  from-unknown : (is_served a s ≡ false) ⊎ (is_served b s ≡ false) → order_of s a log b other ≡ Refused UnknownSeries
  unfolding order_of
  from-unknown p = elim p [
    | inl q ↦ rw q
    | inr q ↦ rw q (go _ (is_served a s))
  ]
    where
      go : (o : Order) (x : Bool) → (Refused UnknownSeries when not x || true else o) ≡ Refused UnknownSeries
      go o true = refl
      go o false = refl

  from-other : is_served a s ≡ true → is_served b s ≡ true → (a.day.date ≡ b.day.date → ⊥)
      → order_of s a log b other ≡ Refused OtherDay
  unfolding order_of
  from-other x y d = rw (x, y, date-other a.day.date b.day.date d)

  from-damaged : is_served a s ≡ true → is_served b s ≡ true → a.day.date ≡ b.day.date
      → FindsDamage a log s ⊎ FindsDamage b other s → order_of s a log b other ≡ Refused DamagedLog
  unfolding order_of
  from-damaged x y d p =
      rw (x, y, date-same a.day.date b.day.date d) (elim p [
        | inl q ↦ ap (λ (o : Option (List Message)). order_read o (logged b other s)) ((logged-damaged a log s).1 q)
        | inr q ↦
            ap (order_read (logged a log s)) ((logged-damaged b other s).1 q) ∙ behind (logged a log s)
      ])
    where
      behind : (o : Option (List Message)) → order_read o none ≡ Refused DamagedLog
      behind none = refl
      behind (some l) = refl

  pub unknown : (order_of s a log b other ≡ Refused UnknownSeries) ↔ ((is_served a s ≡ false) ⊎ (is_served b s ≡ false))
  unknown = (to-unknown _ given, from-unknown)

  pub other-day : (order_of s a log b other ≡ Refused OtherDay)
      ↔ ((is_served a s ≡ true) × (is_served b s ≡ true) × (a.day.date ≡ b.day.date → ⊥))
  other-day = (to-other _ given, λ p. from-other p.0 p.1 p.2)

  pub damaged-log : (order_of s a log b other ≡ Refused DamagedLog)
      ↔ ((is_served a s ≡ true) × (is_served b s ≡ true) × (a.day.date ≡ b.day.date)
      × (FindsDamage a log s ⊎ FindsDamage b other s))
  damaged-log = (to-damaged _ given, λ p. from-damaged p.0 p.1 p.2 p.3)

  pub no_other : (r : Refusal) → order_of s a log b other ≡ Refused r
      → (r ≡ UnknownSeries) ⊎ ((r ≡ OtherDay) ⊎ (r ≡ DamagedLog))
  no_other r q = which _ given r q

  -- An answer that is no refusal: of the two lists.
  pub compared : ((r : Refusal) × (order_of s a log b other ≡ Refused r))
      ⊎ ((l : List Message) × (m : List Message) × Compares s a log b other l m)
  compared = go (order_of s a log b other) given
    where
      go : (o : Order) → Given o → ((r : Refusal) × (o ≡ Refused r))
          ⊎ ((l : List Message) × (m : List Message) × Compares s a log b other l m)
      go o (strange p) = inl (UnknownSeries, refl)
      go o (dated x y d) = inl (OtherDay, refl)
      go o (broken d p) = inl (DamagedLog, refl)
      go o (read l m c) = inr (l, m, c)

  pub compares : (l m : List Message) → Compares s a log b other l m → order_of s a log b other ≡ order_from 1 l m
  unfolding order_of
  compares l m c =
      rw (c.first-open, c.second-open, date-same a.day.date b.day.date c.day, c.first, c.second)
