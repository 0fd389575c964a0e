-- The field at a place, test by test, over plain variables; and that it lies inside. Assumes nothing.
use Prim.Native.Nat.{ℕ, ◌+◌, ◌-◌, ◌<◌, ◌≤◌}
use mathlib.Core.Path.{◌≡◌, refl, sym}
use mathlib.Core.List.{List}
use mathlib.Core.Bool.{Bool, true, false, cond}
use native.Mathlib.Omega.{arith}
use borrow.Author.Tests.{lt-ltb, le-ltb, ltb-true, ltb-false, eq-eqb, ne_eqb, eqb-true, eqb-false}
use lib.ListN.{length, get_or, take, drop, length-drop, get_or-eq_default}
use lib.Seq.{get_or-drop, drop-drop}
use lib.Dec.{ltb, eqb}
use Rattle.fix.specs.Types.{Number}
use Rattle.fix.specs.declared.fields.Last.{Last}
use Rattle.fix.specs.Text.{soh, equals, until, plain_in}
use Rattle.fix.specs.Fields.{text_length, closed, tagged, front_of}
use Rattle.fix.specs.FieldPlaces.{FrontInside}
use Rattle.std.specs.Prelude.{Some, None}
use Rattle.fix.specs.Types.{MaybeFront, some_front}

-- A text closed by SOH.
module _ (tag start n : ℕ) (s : List ℕ) (at : ℕ) where
  behind : get_or (drop at s) (start + n) 0 ≡ get_or s (at + start + n) 0
  behind =
      let k : at + (start + n) ≡ at + start + n = omega arith in
      rw (get_or-drop, k)

  pub closed_none : n ≡ 0 → None ≡ closed tag start n (drop at s)
  unfolding closed
  closed_none z = rw (eq-eqb n 0 z)

  module _ (z : n ≡ 0 → ⊥) where
    pub closed-here : get_or s (at + start + n) 0 ≡ 1 → some_front tag start n ≡ closed tag start n (drop at s)
    unfolding closed
    closed-here h = rw (ne_eqb n 0 z, behind, eq-eqb (get_or s (at + start + n) 0) 1 h)

    pub closed-open : (get_or s (at + start + n) 0 ≡ 1 → ⊥) → None ≡ closed tag start n (drop at s)
    unfolding closed
    closed-open h = rw (ne_eqb n 0 z, behind, ne_eqb (get_or s (at + start + n) 0) 1 h)

    pub closed-short : length s - at - start ≤ n → None ≡ closed tag start n (drop at s)
    closed-short h =
        let past : get_or s (at + start + n) 0 ≡ 0 = get_or-eq_default s 0 {n = at + start + n} (omega arith) in
        closed-open (λ q. omega (arith, past, q))

-- The field at a place.
module _ (last : Last) (s : List ℕ) (at e : ℕ) (q : e ≡ until equals (drop at s)) where
  pub front-open : length s - at ≤ e → None ≡ front_of last (drop at s)
  unfolding front_of
  front-open h = rw (← q, length-drop, le-ltb e (length s - at) h)

  module _ (h : e < length s - at) (x : Number) (p : x ≡ plain_in (take (at + e - at) (drop at s))) where
    same : x ≡ plain_in (take e (drop at s))
    same =
        let k : at + e - at ≡ e = omega arith in
        rw k at p

    pub front-other : x ≡ None → (r : MaybeFront) → r ≡ None → (r ≡ front_of last (drop at s)) × FrontInside (length s - at) r
    unfolding front_of
    front-other w r v = (rw (v, ← q, length-drop, lt-ltb e (length s - at) h, ← same, w), rw v tt)

    pub front-tagged : (tag : ℕ) → x ≡ Some tag → (n : ℕ) → n ≡ text_length last tag (drop (at + e + 1) s)
        → (r : MaybeFront) → r ≡ closed tag (e + 1) n (drop at s) → r ≡ front_of last (drop at s)
    unfolding front_of
    front-tagged tag w n u r v =
        let k : at + (e + 1) ≡ at + e + 1 = omega arith in
        let t : text_length last tag (drop (e + 1) (drop at s)) ≡ n = rw (drop-drop (e + 1) at s, k) (sym u) in
        rw (← q, length-drop, lt-ltb e (length s - at) h, ← same, w, t) v

-- ─── It lies inside ───

closed-inside : (tag start n : ℕ) (l : List ℕ) → 1 ≤ start → FrontInside (length l) (closed tag start n l)
unfolding closed
closed-inside tag start n l h = go (eqb n 0) refl
  where
    byte : (b : Bool) → eqb (get_or l (start + n) 0) soh ≡ b → (n ≡ 0 → ⊥)
        → FrontInside (length l) (cond b (some_front tag start n) None)
    byte false e z = tt
    byte true e z = (h, omega arith, within (ltb (start + n) (length l)) refl)
      where
        within : (b : Bool) → ltb (start + n) (length l) ≡ b → start + n < length l
        within true w = ltb-true (start + n) (length l) w
        within false w =
            let one : get_or l (start + n) 0 ≡ 1 = eqb-true (get_or l (start + n) 0) 1 e in
            let past : get_or l (start + n) 0 ≡ 0 =
            get_or-eq_default l 0 {n = start + n} (ltb-false (start + n) (length l) w) in
            absurd (omega (arith, one, past))

    go : (b : Bool) → eqb n 0 ≡ b
        → FrontInside (length l) (cond b None (cond (eqb (get_or l (start + n) 0) soh) (some_front tag start n) None))
    go true e = tt
    go false e = byte (eqb (get_or l (start + n) 0) soh) refl (eqb-false n 0 e)

tagged-inside : (last : Last) (l : List ℕ) (e : ℕ) (x : Number) → FrontInside (length l) (tagged last l e x)
tagged-inside last l e None = tt
tagged-inside last l e (Some tag) = closed-inside tag (e + 1) (text_length last tag (drop (e + 1) l)) l (omega arith)

pub front-inside : (last : Last) (l : List ℕ) → FrontInside (length l) (front_of last l)
unfolding front_of
front-inside last l = go (ltb (until equals l) (length l))
  where
    go : (b : Bool)
        → FrontInside (length l) (cond b (tagged last l (until equals l) (plain_in (take (until equals l) l))) None)
    go true = tagged-inside last l (until equals l) (plain_in (take (until equals l) l))
    go false = tt

pub at-inside : (last : Last) (s : List ℕ) (at : ℕ) (r : MaybeFront) → r ≡ front_of last (drop at s)
    → FrontInside (length s - at) r
at-inside last s at r q = rw q (rw length-drop at (front-inside last (drop at s)))
