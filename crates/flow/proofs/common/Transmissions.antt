-- The transmissions on the line as a list: at most one of a series is unfinished, a packet more goes to it, and all
-- others stay as they are. Assumes nothing.
use Prim.Native.Nat.{ℕ, zero, suc, ◌≤◌}
use native.Mathlib.Omega.{arith}
use mathlib.Core.Path.{◌≡◌, refl, sym, ap, ◌∙◌}
use mathlib.Core.List.{List, [], ◌∷◌, ◌++◌, map}
use mathlib.Core.Bool.{Bool, true, false, cond, ◌&&◌}
use mathlib.Core.Option.{some}
use borrow.Author.Tests.{eqb-true, ne_eqb, eq-eqb}
use lib.ListN.{length, get_elem?}
use lib.Dec.{eqb}
use Rattle.flow.specs.World.{going, whole, is_going, Transmission, transmission, goes_on, broken_off}
use Rattle.flow.specs.World.{ended_in, ended_all, so_far, standing, with_packet}
use Rattle.flow.proofs.common.Bools.{and_both, clash}
use Rattle.flow.proofs.common.Lists.{Every}
use Rattle.flow.proofs.common.Extends.{Extends, extends-same, extends-append, none-some}

-- How many of a series are unfinished.
abbrev pub goings : ℕ → List Transmission → ℕ
goings s [] = 0
goings s (t ∷ ts) = cond (goes_on s t) (suc (goings s ts)) (goings s ts)

pub none_going : (s : ℕ) (ts : List Transmission) → goings s ts ≡ 0 → so_far s ts ≡ []
none_going s [] q = refl
none_going s (t ∷ ts) q = go (goes_on s t) q (none_going s ts)
  where
    go : (b : Bool) → cond b (suc (goings s ts)) (goings s ts) ≡ 0 → (goings s ts ≡ 0 → so_far s ts ≡ [])
        → cond b t.packets (so_far s ts) ≡ []
    go true q f = absurd (omega arith)
    go false q f = f q

-- ─── Some are changed where they stand ───

module _ (f : Transmission → Transmission) (s : ℕ) where
  pub changed-none : ((t : Transmission) → goes_on s (f t) ≡ false) → (ts : List Transmission) → goings s (map f ts) ≡ 0
  changed-none h [] = refl
  changed-none h (t ∷ ts) = rw (h t) (changed-none h ts)

  module _ (same : (t : Transmission) → goes_on s (f t) ≡ goes_on s t)
      (packets : (t : Transmission) → (f t).packets ≡ t.packets) where
    pub changed-goings : (ts : List Transmission) → goings s (map f ts) ≡ goings s ts
    changed-goings [] = refl
    changed-goings (t ∷ ts) = rw (same t, changed-goings ts)

    pub changed-far : (ts : List Transmission) → so_far s (map f ts) ≡ so_far s ts
    changed-far [] = refl
    changed-far (t ∷ ts) = rw (same t, packets t, changed-far ts)

pub every-changed : (P Q : Transmission → Type 0) (f : Transmission → Transmission)
    → ((t : Transmission) → P t → Q (f t)) → (ts : List Transmission) → Every P ts → Every Q (map f ts)
every-changed P Q f h [] a = tt
every-changed P Q f h (t ∷ ts) a = (h t a.0, every-changed P Q f h ts a.1)

-- ─── Broken off ───

pub broken-packets : (b : Bool) (t : Transmission) → (broken_off b t).packets ≡ t.packets
broken-packets true t = refl
broken-packets false t = refl

broken-here : (s : ℕ) (t : Transmission) → goes_on s (broken_off (goes_on s t) t) ≡ false
broken-here s t = go (goes_on s t) refl
  where
    still : (b : Bool) → (b && false) ≡ false
    still true = refl
    still false = refl

    go : (b : Bool) → goes_on s t ≡ b → goes_on s (broken_off b t) ≡ false
    go true q = still (eqb t.series s)
    go false q = q

broken-other : (s u : ℕ) → (u ≡ s → ⊥) → (t : Transmission) → goes_on u (broken_off (goes_on s t) t) ≡ goes_on u t
broken-other s u n t = go (goes_on s t) refl
  where
    go : (b : Bool) → goes_on s t ≡ b → goes_on u (broken_off b t) ≡ goes_on u t
    go true q =
        let a = and_both (eqb t.series s) (is_going t.stands) q in
        let e : t.series ≡ s = eqb-true t.series s a.0 in
        rw (ne_eqb t.series u (λ p. n (sym p ∙ e)))
    go false q = refl

broken-all : (s : ℕ) (t : Transmission) → goes_on s (broken_off (is_going t.stands) t) ≡ false
broken-all s t = go (is_going t.stands) refl
  where
    still : (b : Bool) → (b && false) ≡ false
    still true = refl
    still false = refl

    go : (b : Bool) → is_going t.stands ≡ b → goes_on s (broken_off b t) ≡ false
    go true q = still (eqb t.series s)
    go false q = rw q (still (eqb t.series s))

module _ (s : ℕ) (ts : List Transmission) where
  pub ended_here : goings s (ended_in s ts) ≡ 0
  ended_here = changed-none (λ (t : Transmission). broken_off (goes_on s t) t) s (broken-here s) ts

  pub ended-all : goings s (ended_all ts) ≡ 0
  ended-all = changed-none (λ (t : Transmission). broken_off (is_going t.stands) t) s (broken-all s) ts

  pub ended-goings : (u : ℕ) → (u ≡ s → ⊥) → goings u (ended_in s ts) ≡ goings u ts
  ended-goings u n =
      changed-goings (λ (t : Transmission). broken_off (goes_on s t) t) u (broken-other s u n)
      (λ t. broken-packets (goes_on s t) t) ts

  pub ended-far : (u : ℕ) → (u ≡ s → ⊥) → so_far u (ended_in s ts) ≡ so_far u ts
  ended-far u n =
      changed-far (λ (t : Transmission). broken_off (goes_on s t) t) u (broken-other s u n)
      (λ t. broken-packets (goes_on s t) t) ts

-- ─── A whole one behind all ───

module _ (s u : ℕ) (ps : List (List ℕ)) where
  not_going : goes_on u (transmission s ps whole) ≡ false
  not_going = go (eqb s u)
    where
      go : (b : Bool) → (b && false) ≡ false
      go true = refl
      go false = refl

  pub whole-goings : (ts : List Transmission) → goings u (ts ++ (transmission s ps whole ∷ [])) ≡ goings u ts
  whole-goings [] = rw not_going
  whole-goings (t ∷ ts) = rw (whole-goings ts)

  pub whole-far : (ts : List Transmission) → so_far u (ts ++ (transmission s ps whole ∷ [])) ≡ so_far u ts
  whole-far [] = rw not_going
  whole-far (t ∷ ts) = rw (whole-far ts)

-- ─── A packet more ───

module _ (s : ℕ) (p : List ℕ) where
  -- In its series: the last one finishes the only unfinished one, any other one is behind those before it.
  pub last-here : (ts : List Transmission) → goings s ts ≤ 1 → goings s (with_packet s true p ts) ≡ 0
  last-here [] h = rw (eq-eqb s s refl)
  last-here (t ∷ ts) h = go (goes_on s t) refl h (last-here ts)
    where
      go : (b : Bool) → goes_on s t ≡ b → cond b (suc (goings s ts)) (goings s ts) ≤ 1
          → (goings s ts ≤ 1 → goings s (with_packet s true p ts) ≡ 0)
          → goings s (cond b (transmission s (t.packets ++ (p ∷ [])) whole ∷ ts) (t ∷ with_packet s true p ts)) ≡ 0
      go true q h f = rw (eq-eqb s s refl) (omega arith)
      go false q h f = rw q (f h)

  pub more-goings : (ts : List Transmission) → goings s ts ≤ 1 → goings s (with_packet s false p ts) ≤ 1
  more-goings [] h = rw (eq-eqb s s refl) (omega arith)
  more-goings (t ∷ ts) h = go (goes_on s t) refl h (more-goings ts)
    where
      go : (b : Bool) → goes_on s t ≡ b → cond b (suc (goings s ts)) (goings s ts) ≤ 1
          → (goings s ts ≤ 1 → goings s (with_packet s false p ts) ≤ 1)
          → goings s (cond b (transmission s (t.packets ++ (p ∷ [])) going ∷ ts) (t ∷ with_packet s false p ts)) ≤ 1
      go true q h f = rw (eq-eqb s s refl) h
      go false q h f = rw q (f h)

  pub more-far : (ts : List Transmission) → so_far s (with_packet s false p ts) ≡ so_far s ts ++ (p ∷ [])
  more-far [] = rw (eq-eqb s s refl)
  more-far (t ∷ ts) = go (goes_on s t) refl (more-far ts)
    where
      go : (b : Bool) → goes_on s t ≡ b → so_far s (with_packet s false p ts) ≡ so_far s ts ++ (p ∷ [])
          → so_far s (cond b (transmission s (t.packets ++ (p ∷ [])) going ∷ ts) (t ∷ with_packet s false p ts)) ≡ cond b
          t.packets (so_far s ts) ++ (p ∷ [])
      go true q f = rw (eq-eqb s s refl)
      go false q f = rw q f

  -- Of every other series nothing changes.
  module _ (last : Bool) (u : ℕ) (n : u ≡ s → ⊥) where
    elsewhere : (ps : List (List ℕ)) → goes_on u (transmission s ps (standing last)) ≡ false
    elsewhere ps = rw (ne_eqb s u (λ q. n (sym q)))

    other-series : (t : Transmission) → goes_on s t ≡ true → goes_on u t ≡ false
    other-series t q =
        let a = and_both (eqb t.series s) (is_going t.stands) q in
        let e : t.series ≡ s = eqb-true t.series s a.0 in
        rw (ne_eqb t.series u (λ p. n (sym p ∙ e)))

    pub packet-goings : (ts : List Transmission) → goings u (with_packet s last p ts) ≡ goings u ts
    packet-goings [] = rw (elsewhere (p ∷ []))
    packet-goings (t ∷ ts) = go (goes_on s t) refl (packet-goings ts)
      where
        go : (b : Bool) → goes_on s t ≡ b → goings u (with_packet s last p ts) ≡ goings u ts
            → goings u
            (cond b (transmission s (t.packets ++ (p ∷ [])) (standing last) ∷ ts) (t ∷ with_packet s last p ts))
            ≡ goings u (t ∷ ts)
        go true q f = rw (elsewhere (t.packets ++ (p ∷ [])), other-series t q)
        go false q f = rw f

    pub packet-far : (ts : List Transmission) → so_far u (with_packet s last p ts) ≡ so_far u ts
    packet-far [] = rw (elsewhere (p ∷ []))
    packet-far (t ∷ ts) = go (goes_on s t) refl (packet-far ts)
      where
        go : (b : Bool) → goes_on s t ≡ b → so_far u (with_packet s last p ts) ≡ so_far u ts
            → so_far u
            (cond b (transmission s (t.packets ++ (p ∷ [])) (standing last) ∷ ts) (t ∷ with_packet s last p ts))
            ≡ so_far u (t ∷ ts)
        go true q f = rw (elsewhere (t.packets ++ (p ∷ [])), other-series t q)
        go false q f = rw f

  -- What holds of each, and of the one that has a packet more, holds of each behind it.
  pub every-packet : (P : Transmission → Type 0) (last : Bool) (ts : List Transmission) → Every P ts
      → P (transmission s (so_far s ts ++ (p ∷ [])) (standing last)) → Every P (with_packet s last p ts)
  every-packet P last [] a h = (h, tt)
  every-packet P last (t ∷ ts) a h = go (goes_on s t) h (every-packet P last ts a.1)
    where
      go : (b : Bool) → P (transmission s (cond b t.packets (so_far s ts) ++ (p ∷ [])) (standing last))
          → (P (transmission s (so_far s ts ++ (p ∷ [])) (standing last)) → Every P (with_packet s last p ts))
          → Every P (cond b (transmission s (t.packets ++ (p ∷ [])) (standing last) ∷ ts) (t ∷ with_packet s last p ts))
      go true h f = (h, a.1)
      go false h f = (a.0, f h)

  -- It stands somewhere.
  pub packet-there : (last : Bool) (ts : List Transmission) → (i : ℕ)
      × (get_elem? (with_packet s last p ts) i ≡ some (transmission s (so_far s ts ++ (p ∷ [])) (standing last)))
  packet-there last [] = (0, refl)
  packet-there last (t ∷ ts) = go (goes_on s t) (packet-there last ts)
    where
      go : (b : Bool) → ((i : ℕ)
          × (get_elem? (with_packet s last p ts) i ≡ some (transmission s (so_far s ts ++ (p ∷ [])) (standing last))))
          → (i : ℕ)
          × (get_elem?
          (cond b (transmission s (t.packets ++ (p ∷ [])) (standing last) ∷ ts) (t ∷ with_packet s last p ts)) i
          ≡ some (transmission s (cond b t.packets (so_far s ts) ++ (p ∷ [])) (standing last)))
      go true x = (0, refl)
      go false x = (suc x.0, x.1)

-- ─── From one list to a later one: each stays in its place and only grows; a whole one stays as it is ───

pub record Later (t u : Transmission) : Type 0 where
  pub series : u.series ≡ t.series
  pub packets : Extends t.packets u.packets
  pub stays : t.stands ≡ whole → u ≡ t

pub later_same : (t : Transmission) → Later t t
later_same t = record { series = refl; packets = extends-same t.packets; stays = λ q. refl }

-- Place by place, with anything behind.
abbrev pub Onward : List Transmission → List Transmission → Type 0
Onward [] us = Unit {0}
Onward (t ∷ ts) [] = ⊥
Onward (t ∷ ts) (u ∷ us) = Later t u × Onward ts us

pub onward-same : (ts : List Transmission) → Onward ts ts
onward-same [] = tt
onward-same (t ∷ ts) = (later_same t, onward-same ts)

pub onward-append : (ts us ms : List Transmission) → Onward ts us → Onward ts (us ++ ms)
onward-append [] us ms h = tt
onward-append (t ∷ ts) [] ms h = absurd h
onward-append (t ∷ ts) (u ∷ us) ms h = (h.0, onward-append ts us ms h.1)

pub onward-changed : (f : Transmission → Transmission) → ((t : Transmission) → Later t (f t))
    → (ts : List Transmission) → Onward ts (map f ts)
onward-changed f h [] = tt
onward-changed f h (t ∷ ts) = (h t, onward-changed f h ts)

not-whole : {A : Type 0} (t : Transmission) → is_going t.stands ≡ true → t.stands ≡ whole → A
not-whole t q h = clash _ q (ap is_going h)

broken-later : (t : Transmission) (b : Bool) → (b ≡ true → is_going t.stands ≡ true) → Later t (broken_off b t)
broken-later t true f =
    record { series = refl; packets = extends-same t.packets; stays = λ q. not-whole t (f refl) q }
broken-later t false f = later_same t

pub onward-ended : (s : ℕ) (ts : List Transmission) → Onward ts (ended_in s ts)
onward-ended s =
    onward-changed (λ (t : Transmission). broken_off (goes_on s t) t) λ t. broken-later t (goes_on s t) λ q.
    (and_both (eqb t.series s) (is_going t.stands) q).1

pub onward-all : (ts : List Transmission) → Onward ts (ended_all ts)
onward-all =
    onward-changed (λ (t : Transmission). broken_off (is_going t.stands) t) λ t.
    broken-later t (is_going t.stands) λ q. q

pub onward-packet : (s : ℕ) (last : Bool) (p : List ℕ) (ts : List Transmission) → Onward ts (with_packet s last p ts)
onward-packet s last p [] = tt
onward-packet s last p (t ∷ ts) = go (goes_on s t) refl (onward-packet s last p ts)
  where
    go : (b : Bool) → goes_on s t ≡ b → Onward ts (with_packet s last p ts)
        → Onward (t ∷ ts)
        (cond b (transmission s (t.packets ++ (p ∷ [])) (standing last) ∷ ts) (t ∷ with_packet s last p ts))
    go true q f =
        let a = and_both (eqb t.series s) (is_going t.stands) q in (
          record {
            series = sym (eqb-true t.series s a.0);
            packets = extends-append t.packets (p ∷ []);
            stays = λ h. not-whole t a.1 h;
          },
          onward-same ts,
        )
    go false q f = (later_same t, f)

pub onward-at : (ts us : List Transmission) → Onward ts us → (i : ℕ) (t : Transmission) → get_elem? ts i ≡ some t
    → (u : Transmission) × (get_elem? us i ≡ some u) × Later t u
onward-at [] us h i t q = absurd (none-some t q)
onward-at (x ∷ ts) [] h i t q = absurd h
onward-at (x ∷ ts) (y ∷ us) h zero t q = let e : x ≡ t = cc in (y, refl, rw e at h.0)
onward-at (x ∷ ts) (y ∷ us) h (suc i) t q = onward-at ts us h.1 i t q

-- A whole one stands where it stood.
pub onward-whole : (ts us : List Transmission) → Onward ts us → (i s : ℕ) (ps : List (List ℕ))
    → get_elem? ts i ≡ some (transmission s ps whole) → get_elem? us i ≡ some (transmission s ps whole)
onward-whole ts us h i s ps q =
    let x = onward-at ts us h i (transmission s ps whole) q in
    x.1 ∙ ap some (x.2.stays refl)

-- The last place.
pub place_end : {A : Type 0} (a : List A) (y : A) → get_elem? (a ++ (y ∷ [])) (length a) ≡ some y
place_end [] y = refl
place_end (x ∷ a) y = place_end a y
