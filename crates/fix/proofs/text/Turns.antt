-- Texts by std's words: what `position`, `starts_with` and `fold` give, and the turns of the loop over digits. Assumes
-- nothing.
use Prim.Native.Nat.{ℕ, zero, suc, min, ◌+◌, ◌*◌, ◌-◌, ◌%◌, ◌<◌, ◌≤◌}
use mathlib.Core.Path.{◌≡◌, refl, sym, ◌∙◌}
use mathlib.Core.List.{List, [], ◌∷◌}
use mathlib.Core.Bool.{Bool, true, false, cond, not}
use native.Mathlib.Omega.{arith}
use borrow.Author.Tests.{eq-eqb, ne_eqb, eqb-true, eqb-false, leb-true, leb-false, ltb-false}
use lib.ListN.{length, take, drop, length-drop, drop_of_length-le}
use lib.Dec.{eqb, ltb, leb}
use Rattle.std.specs.declared.option.Option.{Option}
use Rattle.std.specs.declared.option.Option.TheVariants.{None, Some}
use Rattle.std.specs.Option.{unwrap_or}
use Rattle.std.specs.List.{fold, prefix_len, starts_with}
use Rattle.std.proofs.lemmas.List.{take_all}
use Rattle.std.proofs.lemmas.List.Sums.{prefix_len-le-length}
use Rattle.fix.specs.Types.{Number}
use Rattle.fix.specs.Text.{until, begins, stands_at, number_from, total}

-- The bytes from a place on, or none.
pub rest-from : (l : List ℕ) (at m : ℕ) → m ≡ min at (length l) → take (length l - m) (drop m l) ≡ drop at l
rest-from l at m e =
    let whole = take_all (length l - m) (drop m l) (omega (arith, length-drop m l)) in
    rw whole (go (leb at (length l)) refl)
  where
    go : (b : Bool) → leb at (length l) ≡ b → drop m l ≡ drop at l
    go true h =
        let s : m ≡ at = omega (arith, leb-true at (length l) h) in
        rw s
    go false h =
        let k = leb-false at (length l) h in
        rw (drop_of_length-le l {i = m} (omega arith), drop_of_length-le l {i = at} (omega arith))

-- ─── Up to a byte ───

pub until-is : (c : ℕ) (l : List ℕ) → prefix_len (λ x. not (eqb x c)) l ≡ until c l
until-is c [] = refl
until-is c (x ∷ l) = go (eqb x c) _ _ (until-is c l)
  where
    go : (b : Bool) (m n : ℕ) → m ≡ n → cond (not b) (1 + m) 0 ≡ cond b 0 (suc n)
    go true m n e = refl
    go false m n e = omega (arith, e)

-- The place of the first, or the length.
pub position-until : (c : ℕ) (l : List ℕ) (o : Option ℕ)
    → o ≡ cond (ltb (prefix_len (λ x. not (eqb x c)) l) (length l)) (Some (prefix_len (λ x. not (eqb x c)) l)) None
    → unwrap_or o (length l) ≡ until c l
position-until c l o e = go (ltb n (length l)) refl e
  where
    n : ℕ
    n = prefix_len (λ x. not (eqb x c)) l

    go : (b : Bool) → ltb n (length l) ≡ b → o ≡ cond b (Some n) None → unwrap_or o (length l) ≡ until c l
    go true h q = rw q (until-is c l)
    go false h q =
        let k : length l ≡ n = omega (arith, ltb-false n (length l) h, prefix_len-le-length (λ x. not (eqb x c)) l) in
        rw q (k ∙ until-is c l)

pub until-within : (c : ℕ) (l : List ℕ) → until c l ≤ length l
until-within c l = rw (until-is c l) at (prefix_len-le-length (λ x. not (eqb x c)) l)

-- ─── Words ───

same-turned : (x y : ℕ) → eqb x y ≡ eqb y x
same-turned x y = go (eqb x y) refl
  where
    go : (b : Bool) → eqb x y ≡ b → b ≡ eqb y x
    go true e = sym (eq-eqb y x (sym (eqb-true x y e)))
    go false e = sym (ne_eqb y x (λ q. eqb-false x y e (sym q)))

starts-begins : (l w : List ℕ) → starts_with eqb l w ≡ begins l w
starts-begins l [] = refl
starts-begins [] (y ∷ w) = refl
starts-begins (x ∷ l) (y ∷ w) = rw (same-turned y x, starts-begins l w)

pub starts-stands : (l w : List ℕ) (at m : ℕ) → m ≡ min at (length l)
    → starts_with eqb (take (length l - m) (drop m l)) w ≡ stands_at l at w
unfolding stands_at
starts-stands l w at m e =
    rw (rest-from l at m e) (starts-begins (drop at l) w)

-- ─── Numbers ───

abbrev pub power : ℕ → ℕ
power zero = 1
power (suc i) = 10 * power i

pub power-least : (i : ℕ) → i ≤ 8 → power i ≤ 100000000
power-least zero h = omega arith
power-least (suc zero) h = omega arith
power-least (suc (suc zero)) h = omega arith
power-least (suc (suc (suc zero))) h = omega arith
power-least (suc (suc (suc (suc zero)))) h = omega arith
power-least (suc (suc (suc (suc (suc zero))))) h = omega arith
power-least (suc (suc (suc (suc (suc (suc zero)))))) h = omega arith
power-least (suc (suc (suc (suc (suc (suc (suc zero))))))) h = omega arith
power-least (suc (suc (suc (suc (suc (suc (suc (suc zero)))))))) h = omega arith
power-least (suc (suc (suc (suc (suc (suc (suc (suc (suc i))))))))) h = absurd (omega arith)

pub number-over : (l : List ℕ) (i n : ℕ) (t : Number) → number_from n (drop i l) ≡ t → length l ≤ i → Some n ≡ t
number-over l i n t inv h = rw (drop_of_length-le l h) at inv

-- At most nine digits: no step passes 32 bits.
module _ (i n len : ℕ) (h : len ≤ 9) (b : n < power i) where
  pub times-fits : i < len → n * 10 < 4294967296
  times-fits k = let q = power-least i (omega arith) in omega (arith, q)

  pub digit-fits : i < len → (d : ℕ) → d ≤ 9 → n * 10 + d < 4294967296
  digit-fits k d e = let q = power-least i (omega arith) in omega (arith, q)

pub power-most : (i : ℕ) → i ≤ 9 → power i ≤ 1000000000
power-most zero h = omega arith
power-most (suc i) h = let q = power-least i (omega arith) in omega (arith, q)

pub number_fits : (i n len : ℕ) → len ≤ 9 → i ≤ len → n < power i → n ≤ 999999999
number_fits i n len h k b = let q = power-most i (omega arith) in omega (arith, q)

-- ─── Sums ───

pub fold-sum : (l : List ℕ) (n : ℕ) → n < 256 → fold (λ n b. (n + b) % 256) n l ≡ (n + total l) % 256
fold-sum [] n h = omega arith
fold-sum (x ∷ l) n h = omega (arith, fold-sum l ((n + x) % 256) (omega arith))
