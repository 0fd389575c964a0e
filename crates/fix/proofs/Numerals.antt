-- Texts that are numbers, and numbers in digits. Assumes nothing.
use Prim.Native.Nat.{ℕ, zero, suc, ◌+◌, ◌*◌, ◌-◌, ◌/◌, ◌%◌, ◌<◌, ◌≤◌}
use mathlib.Core.Path.{◌≡◌, refl, sym, ap, ◌∙◌}
use mathlib.Core.List.{List, [], ◌∷◌, ◌++◌, append-nil, append_assoc}
use mathlib.Core.Bool.{Bool, true, false, cond}
use native.Mathlib.Omega.{arith}
use borrow.Author.Tests.{lt-ltb, le-ltb, ltb-true, ltb-false, ne_eqb, eqb-false}
use lib.ListN.{length, get_or, length-append, get_or-append}
use lib.Dec.{ltb, eqb}
use Rattle.fix.specs.Types.{Number}
use Rattle.fix.specs.Text.{equals, until, number_from, number_in, plain_in, letter}
use Rattle.fix.specs.Pairs.{decimal_in, decimal, AllDigits, value_from, IsNumber}
use Rattle.fix.proofs.text.Turns.{power}
use Rattle.fix.proofs.tally.Ranges.{number_bound}
use Rattle.fix.proofs.frame.Words.{other-taken}
use Rattle.std.specs.Prelude.{Some, None}

-- ─── Numbers ───

pub never-number : (n : ℕ) → None ≡ Some n → ⊥
never-number n e = let z : ◌≡◌ {A = ℕ} 0 1 = cc in omega arith

from-digits : (k n : ℕ) (l : List ℕ) → number_from k l ≡ Some n → AllDigits l × (value_from k l ≡ n)
from-digits k n [] e = (tt, cc)
from-digits k n (c ∷ l) e =
    let r : Number = number_from (k * 10 + (c - 48)) l in
    let x = other-taken None (cond (ltb 57 c) None r) (Some n) (ltb c 48) (never-number n) e in
    let y = other-taken None r (Some n) (ltb 57 c) (never-number n) x.1 in
    let z = from-digits (k * 10 + (c - 48)) n l y.1 in
    ((ltb-false c 48 x.0, ltb-false 57 c y.0, z.0), z.1)

digits_from : (k : ℕ) (l : List ℕ) → AllDigits l → number_from k l ≡ Some (value_from k l)
digits_from k [] d = refl
digits_from k (c ∷ l) d =
    rw (le-ltb c 48 d.0, le-ltb 57 c d.1) (digits_from (k * 10 + (c - 48)) l d.2)

pub number_is : (text : List ℕ) (n : ℕ) → number_in text ≡ Some n → IsNumber text n
unfolding number_in
number_is text n e =
    let r : Number = number_from 0 text in
    let x = other-taken None (cond (ltb 9 (length text)) None r) (Some n) (eqb (length text) 0) (never-number n) e in
    let y = other-taken None r (Some n) (ltb 9 (length text)) (never-number n) x.1 in
    let z = from-digits 0 n text y.1 in
    let s = eqb-false (length text) 0 x.0 in
    record { some = omega (arith, s); few = ltb-false 9 (length text) y.0; digits = z.0; value = z.1 }

pub is_number : (text : List ℕ) (n : ℕ) → IsNumber text n → number_in text ≡ Some n
unfolding number_in
is_number text n i =
    let s : 1 ≤ length text = i.some in
    rw (
      ne_eqb (length text) 0 (λ z. omega (arith, s, z)),
      le-ltb 9 (length text) i.few,
      digits_from 0 text i.digits,
      i.value,
    )

pub number-most : (text : List ℕ) (n : ℕ) → number_in text ≡ Some n → n ≤ 999999999
number-most text n e = rw e at (number_bound text)

-- ─── Digits of a number ───

fuel : (j k n : ℕ) → n < j → n < k → decimal_in j n ≡ decimal_in k n
fuel zero k n h i = absurd (omega arith)
fuel (suc j) zero n h i = absurd (omega arith)
fuel (suc j) (suc k) n h i = go (ltb n 10) refl (fuel j k (n / 10))
  where
    go : (b : Bool) → ltb n 10 ≡ b → (n / 10 < j → n / 10 < k → decimal_in j (n / 10) ≡ decimal_in k (n / 10))
        → cond b (letter n ∷ []) (decimal_in j (n / 10) ++ (letter n ∷ []))
        ≡ cond b (letter n ∷ []) (decimal_in k (n / 10) ++ (letter n ∷ []))
    go true e ih = refl
    go false e ih =
        let m : 10 ≤ n = ltb-false n 10 e in
        ap (λ (l : List ℕ). l ++ (letter n ∷ [])) (ih (omega (arith, m, h)) (omega (arith, m, i)))

pub decimal-one : (d : ℕ) → d ≤ 9 → decimal d ≡ (48 + d) ∷ []
unfolding decimal
decimal-one d h =
    let e : d % 10 ≡ d = omega arith in
    rw (lt-ltb d 10 (omega arith), e)

pub decimal_step : (n d : ℕ) → 1 ≤ n → d ≤ 9 → decimal (n * 10 + d) ≡ decimal n ++ ((48 + d) ∷ [])
unfolding decimal
decimal_step n d h i =
    let e : (n * 10 + d) / 10 ≡ n = omega arith in
    let r : (n * 10 + d) % 10 ≡ d = omega arith in
    rw (le-ltb (n * 10 + d) 10 (omega arith), e, r, fuel (n * 10 + d) (suc n) n (omega arith) (omega arith))

decimal-behind : (k : ℕ) (l : List ℕ) → 1 ≤ k → AllDigits l → decimal (value_from k l) ≡ decimal k ++ l
decimal-behind k [] h d = sym (append-nil (decimal k))
decimal-behind k (c ∷ l) h d =
    let a : 48 ≤ c = d.0 in
    let b : c ≤ 57 = d.1 in
    let e : 48 + (c - 48) ≡ c = omega (arith, a) in
    let s : decimal (k * 10 + (c - 48)) ≡ decimal k ++ (c ∷ []) =
    rw e at (decimal_step k (c - 48) h (omega (arith, a, b))) in
    decimal-behind (k * 10 + (c - 48)) l (omega arith) d.2 ∙ ap (λ (x : List ℕ). x ++ l) s
    ∙ append_assoc (decimal k) (c ∷ []) l

value-least : (k : ℕ) (l : List ℕ) → 1 ≤ k → 1 ≤ value_from k l
value-least k [] h = h
value-least k (c ∷ l) h = value-least (k * 10 + (c - 48)) l (omega arith)

-- A plain number is written in one way.
pub plain-is : (l : List ℕ) (n : ℕ) → plain_in l ≡ Some n → (l ≡ decimal n) × (1 ≤ n) × (n ≤ 999999999)
unfolding plain_in
plain-is l n e =
    let x = other-taken None (number_in l) (Some n) (eqb (get_or l 0 0) 48) (never-number n) e in
    let i = number_is l n x.1 in
    let y = go l i.some (eqb-false (get_or l 0 0) 48 x.0) i.digits i.value in
    (y.0, y.1, number-most l n x.1)
  where
    go : (l : List ℕ) → 1 ≤ length l → (get_or l 0 0 ≡ 48 → ⊥) → AllDigits l → value_from 0 l ≡ n
        → (l ≡ decimal n) × (1 ≤ n)
    go [] s z d v = absurd (omega arith)
    go (c ∷ l) s z d v =
        let a : 48 ≤ c = d.0 in
        let b : c ≤ 57 = d.1 in
        let k : 0 * 10 + (c - 48) ≡ c - 48 = omega arith in
        let o : 1 ≤ c - 48 = omega (arith, a, z) in
        let w : value_from (c - 48) l ≡ n = rw k at v in
        let e : 48 + (c - 48) ≡ c = omega (arith, a) in
        let f : decimal (c - 48) ≡ c ∷ [] = decimal-one (c - 48) (omega (arith, b)) ∙ rw e in
        (sym (rw (w, f) at (decimal-behind (c - 48) l o d.2)), rw w at (value-least (c - 48) l o))

-- ─── Digits are read back ───

digits_append : (l m : List ℕ) → AllDigits l → AllDigits m → AllDigits (l ++ m)
digits_append [] m d e = e
digits_append (c ∷ l) m d e = (d.0, d.1, digits_append l m d.2 e)

value-append : (k c : ℕ) (l : List ℕ) → value_from k (l ++ (c ∷ [])) ≡ value_from k l * 10 + (c - 48)
value-append k c [] = refl
value-append k c (x ∷ l) = value-append (k * 10 + (x - 48)) c l

-- Digits, as many as its size asks for, the first not 0, of that value.
record Spelled (n : ℕ) (l : List ℕ) : Type 0 where
  some : 1 ≤ length l
  few : (j : ℕ) → n < power (suc j) → length l ≤ suc j
  digits : AllDigits l
  value : value_from 0 l ≡ n
  first : 1 ≤ n → get_or l 0 0 ≡ 48 → ⊥

one-spelled : (n : ℕ) → n ≤ 9 → Spelled n ((48 + n) ∷ [])
one-spelled n h =
    record {
      some = omega arith;
      few = λ j i. omega arith;
      digits = (omega arith, omega arith, tt);
      value = omega arith;
      first = λ o z. omega (arith, o, z);
    }

next-spelled : (n : ℕ) (l : List ℕ) → 10 ≤ n → Spelled (n / 10) l → Spelled n (l ++ (letter n ∷ []))
next-spelled n l h s =
    let m = length-append l (letter n ∷ []) in
    let o : 1 ≤ length l = s.some in
    let g = get_or-append l (letter n ∷ []) 0 0 (omega (arith, o)) in
    record {
      some = omega (arith, m);
      few = λ j i. many j i s.few m;
      digits = digits_append l (letter n ∷ []) s.digits (omega arith, omega arith, tt);
      value = value-append 0 (letter n) l ∙ rw s.value (omega arith);
      first = λ k z. s.first (omega arith) (sym g ∙ z);
    }
  where
    many : (j : ℕ) → n < power (suc j) → ((i : ℕ) → n / 10 < power (suc i) → length l ≤ suc i)
        → length (l ++ (letter n ∷ [])) ≡ length l + 1 → length (l ++ (letter n ∷ [])) ≤ suc j
    many zero i f m = absurd (omega (arith, i, h))
    many (suc j) i f m = let z = f j (omega (arith, i)) in omega (arith, z, m)

spelled-in : (most n : ℕ) → n < most → Spelled n (decimal_in most n)
spelled-in zero n h = absurd (omega arith)
spelled-in (suc most) n h = go (ltb n 10) refl (spelled-in most (n / 10))
  where
    go : (b : Bool) → ltb n 10 ≡ b → (n / 10 < most → Spelled (n / 10) (decimal_in most (n / 10)))
        → Spelled n (cond b (letter n ∷ []) (decimal_in most (n / 10) ++ (letter n ∷ [])))
    go true e ih =
        let m : n < 10 = ltb-true n 10 e in
        let k : n % 10 ≡ n = omega (arith, m) in
        rw k (one-spelled n (omega (arith, m)))
    go false e ih =
        let m : 10 ≤ n = ltb-false n 10 e in
        next-spelled n (decimal_in most (n / 10)) m (ih (omega (arith, m, h)))

spelled : (n : ℕ) → Spelled n (decimal n)
unfolding decimal
spelled n = spelled-in (suc n) n (omega arith)

pub decimal-plain : (n : ℕ) → 1 ≤ n → n ≤ 999999999 → plain_in (decimal n) ≡ Some n
unfolding plain_in
decimal-plain n h i =
    let s = spelled n in
    let d : IsNumber (decimal n) n =
    record { some = s.some; few = s.few 8 (omega arith); digits = s.digits; value = s.value } in
    rw (ne_eqb (get_or (decimal n) 0 0) 48 (s.first h)) (is_number (decimal n) n d)

-- Digits hold no `=`.
no-equals : (l : List ℕ) → AllDigits l → until equals l ≡ length l
no-equals [] d = refl
no-equals (c ∷ l) d =
    let b : c ≤ 57 = d.1 in
    rw (ne_eqb c 61 (λ e. omega (arith, b, e))) (ap suc (no-equals l d.2))

pub decimal-until : (n : ℕ) → until equals (decimal n) ≡ length (decimal n)
decimal-until n = no-equals (decimal n) (spelled n).digits
