-- The turns of the loops over a word's bytes, over plain variables. Assumes nothing.
use Prim.Native.Nat.{ℕ, zero, suc, ◌+◌, ◌-◌, ◌*◌, ◌/◌, ◌%◌, ◌<◌, ◌≤◌}
use mathlib.Core.Path.{◌≡◌, refl, ap, ◌∙◌}
use mathlib.Core.List.{List, [], ◌∷◌}
use mathlib.Core.Bool.{Bool, true, false, cond, not, ◌&&◌}
use native.Mathlib.Numerals.{add-one}
use native.Mathlib.Omega.{arith}
use borrow.Author.Tests.{ltb-false, lt-ltb, le-ltb, le-leb, lt-leb, eq-eqb, ne_eqb}
use lib.ListN.{length, get_or, set, take, drop, drop_of_length-le, length-drop}
use lib.Seq.{drop-cons, take_all, paste, paste-zero, paste-suc}
use lib.Dec.{eqb, leb, ltb}
use Rattle.std.specs.List.{position_or_len, position}
use Rattle.std.specs.Option.{unwrap_or}
use Rattle.std.specs.Cmp.Lexicographic.{pointwise}
use Rattle.std.specs.declared.option.Option.{Option}
use Rattle.std.specs.declared.option.Option.TheVariants.{None, Some}
use Rattle.std.proofs.lemmas.List.Sums.{prefix_len-le-length}
use Rattle.std.proofs.lemmas.List.Recursion.{is_position_or_len, and_is}
use Rattle.ftd.specs.Bytes.{put}
use Rattle.ftd.proofs.bytes.Put.{paste-put}
use Rattle.play.specs.Words.{up_to_space, end_of, digit_value, no_number, digits_from, number_in, tid_in, all_hex, pair_of, said_bytes}
use Rattle.play.specs.Words.{same_word, wide_from, wide_in, up_to_colon, series_in, reserve_in}
use Rattle.play.specs.Types.{Wide}

-- ─── Where a word ends ───

one-more : (b : Bool) (n : ℕ) → cond b 0 (suc n) ≡ cond b 0 (1 + n)
one-more b n = let e : suc n ≡ 1 + n = omega arith in ap (cond b 0) e

-- How many elements stand before the first that passes.
first-within : (p : ℕ → Bool) (l : List ℕ) → position_or_len p l ≤ length l
first-within p l = prefix_len-le-length (λ x. not (p x)) l

first-or-all : (p : ℕ → Bool) (l : List ℕ) (o : Option ℕ) → o ≡ position p l → unwrap_or o (length l) ≡ position_or_len p l
first-or-all p l o q = rw q (go (ltb (position_or_len p l) (length l)) refl)
  where
    go : (b : Bool) → ltb (position_or_len p l) (length l) ≡ b
        → unwrap_or (cond b (Some (position_or_len p l)) None) (length l) ≡ position_or_len p l
    go true e = refl
    go false e =
        let h = ltb-false (position_or_len p l) (length l) e in
        let g = first-within p l in
        omega arith

space-is : (l : List ℕ) → up_to_space l ≡ position_or_len (λ x. eqb x 32) l
unfolding up_to_space
space-is = is_position_or_len up_to_space (λ x. eqb x 32) refl (λ x l. one-more (eqb x 32) (up_to_space l))

module _ (line : List ℕ) (at : ℕ) (o : Option ℕ) (h : at ≤ length line)
    (q : o ≡ position (λ x. eqb x 32) (take (length line - at) (drop at line))) where
  count : unwrap_or o (length line - at) ≡ up_to_space (drop at line)
  count =
      let g : length (drop at line) ≡ length line - at = length-drop at line in
      let e : take (length line - at) (drop at line) ≡ drop at line = take_all (length line - at) (drop at line) (omega arith) in
      rw (← g, space-is (drop at line)) (first-or-all (λ x. eqb x 32) (drop at line) o (rw e at q))

  pub end-is : at + unwrap_or o (length line - at) ≡ end_of line at
  unfolding end_of
  end-is = rw count

  pub end-within : at + unwrap_or o (length line - at) ≤ length line
  end-within =
      let g : up_to_space (drop at line) ≤ length (drop at line) = rw (space-is (drop at line)) (first-within (λ x. eqb x 32) (drop at line)) in
      let f : length (drop at line) ≡ length line - at = length-drop at line in
      rw count (omega arith)

-- ─── Numbers ───

module _ (base : ℕ) (l : List ℕ) (i n t : ℕ) (inv : digits_from base n (drop i l) ≡ t) (h : i < length l) where
  step : cond (leb base (digit_value (get_or l i 0))) no_number
      (cond (leb no_number (n * base + digit_value (get_or l i 0))) no_number
      (digits_from base (n * base + digit_value (get_or l i 0)) (drop (suc i) l))) ≡ t
  unfolding digits_from
  step = rw (drop-cons l i 0 h) at inv

  module _ (d : ℕ) (q : d ≡ digit_value (get_or l i 0)) where
    pub no_digit : base ≤ d → no_number ≡ t
    no_digit b = rw (← q, le-leb base d b) at step

    pub too-high : d < base → (m : ℕ) → m ≡ n * base + d → no_number ≤ m → no_number ≡ t
    too-high b m e g = rw (← q, lt-leb base d b, ← e, le-leb no_number m g) at step

    pub digit-more : d < base → (m : ℕ) → m ≡ n * base + d → m < no_number → digits_from base m (drop (i + 1) l) ≡ t
    digit-more b m e g = rw (add-one i) (rw (← q, lt-leb base d b, ← e, lt-leb no_number m g) at step)

-- A word with a byte at least.
pub number-some : (base : ℕ) (l : List ℕ) → (length l ≡ 0 → ⊥) → digits_from base 0 l ≡ number_in base l
unfolding number_in
number-some base l n = rw (ne_eqb (length l) 0 n)

pub digits-over : (base : ℕ) (l : List ℕ) (i n t : ℕ) → digits_from base n (drop i l) ≡ t → length l ≤ i → n ≡ t
unfolding digits_from
digits-over base l i n t inv h = rw (drop_of_length-le l h) at inv

-- A TID has eight digits.
module _ (w : List ℕ) where
  pub tid-eight : (r : ℕ) → length w ≡ 8 → r ≡ number_in 16 w → r ≡ tid_in w
  unfolding tid_in
  tid-eight r e q = rw (eq-eqb (length w) 8 e) q

  pub tid-other : (length w ≡ 8 → ⊥) → no_number ≡ tid_in w
  unfolding tid_in
  tid-other n = rw (ne_eqb (length w) 8 n)

-- ─── Numbers of eight bytes ───

module _ (l : List ℕ) (i n : ℕ) (t : Wide) (inv : wide_from n (drop i l) ≡ t) where
  module _ (h : i < length l) (d : ℕ) (q : d ≡ digit_value (get_or l i 0)) where
    wide_step : cond (leb 10 d) None
        (cond (ltb 18446744073709551615 (n * 10 + d)) None (wide_from (n * 10 + d) (drop (suc i) l))) ≡ t
    unfolding wide_from
    wide_step = rw q (rw (drop-cons l i 0 h) at inv)

    pub wide-no-digit : 10 ≤ d → None ≡ t
    wide-no-digit b = rw (le-leb 10 d b) at wide_step

    pub wide-above : d < 10 → 18446744073709551615 < n * 10 + d → None ≡ t
    wide-above b g = rw (lt-leb 10 d b, lt-ltb 18446744073709551615 (n * 10 + d) g) at wide_step

    pub wide-more : d < 10 → n * 10 + d ≤ 18446744073709551615 → (m : ℕ) → m ≡ n * 10 + d → wide_from m (drop (i + 1) l) ≡ t
    wide-more b g m e = rw (add-one i, e) (rw (lt-leb 10 d b, le-ltb 18446744073709551615 (n * 10 + d) g) at wide_step)

  pub wide-over : length l ≤ i → Some n ≡ t
  unfolding wide_from
  wide-over h = rw (drop_of_length-le l h) at inv

pub wide-none : (l : List ℕ) → length l ≡ 0 → None ≡ wide_in l
unfolding wide_in
wide-none l e = rw (eq-eqb (length l) 0 e)

pub wide-some : (l : List ℕ) → (length l ≡ 0 → ⊥) → wide_from 0 l ≡ wide_in l
unfolding wide_in
wide-some l n = rw (ne_eqb (length l) 0 n)

-- ─── A series and its reserve ───

colon-is : (l : List ℕ) → up_to_colon l ≡ position_or_len (λ x. eqb x 58) l
unfolding up_to_colon
colon-is = is_position_or_len up_to_colon (λ x. eqb x 58) refl (λ x l. one-more (eqb x 58) (up_to_colon l))

module _ (l : List ℕ) (o : Option ℕ) (q : o ≡ position (λ x. eqb x 58) l) where
  pub colon-place : unwrap_or o (length l) ≡ up_to_colon l
  colon-place = rw (colon-is l) (first-or-all (λ x. eqb x 58) l o q)

  pub colon-within : unwrap_or o (length l) ≤ length l
  colon-within = rw (first-or-all (λ x. eqb x 58) l o q) (first-within (λ x. eqb x 58) l)

module _ (w : List ℕ) (e : ℕ) (p : e ≡ up_to_colon w) where
  pub named-is : (x : ℕ) → x ≡ number_in 10 (take e w) → x ≡ series_in w
  unfolding series_in
  named-is x q = rw (← p) q

  pub reserve-behind : e < length w → (x : Wide) → x ≡ wide_in (take (length w - (e + 1)) (drop (e + 1) w))
      → x ≡ reserve_in w
  unfolding reserve_in
  reserve-behind h x q =
      let g : length (drop (e + 1) w) ≤ length w - (e + 1) = rw length-drop (omega arith) in
      rw (← p, lt-ltb e (length w) h) (rw (take_all (length w - (e + 1)) (drop (e + 1) w) g) at q)

  pub no-reserve-behind : length w ≤ e → Some 0 ≡ reserve_in w
  unfolding reserve_in
  no-reserve-behind h = rw (← p, le-ltb e (length w) h)

-- ─── Hexadecimal digits ───

pub hex-is : (l : List ℕ) (r : Bool)
    → (r ≡ true → (i : ℕ) → i < length l → not (eqb (digit_value (get_or l i 0)) 16) ≡ true)
    → (r ≡ false → (i : ℕ) × (i < length l) × (not (eqb (digit_value (get_or l i 0)) 16) ≡ false)) → r ≡ all_hex l
unfolding all_hex
hex-is l r = and_is all_hex (λ x. not (eqb (digit_value x) 16)) refl (λ x l. go (eqb (digit_value x) 16) (all_hex l)) l 0 r
  where
    go : (b t : Bool) → cond b false t ≡ (not b && t)
    go true t = refl
    go false t = refl

-- ─── Bytes ───

pub length-bytes : (l : List ℕ) → length (said_bytes l) ≡ length l / 2
unfolding said_bytes
length-bytes [] = refl
length-bytes (x ∷ []) = refl
length-bytes (x ∷ y ∷ l) = let e = length-bytes l in omega (arith, e)

pub byte_at : (l : List ℕ) (i : ℕ) → i < length l / 2
    → get_or (said_bytes l) i 0 ≡ pair_of (get_or l (2 * i) 0) (get_or l (2 * i + 1) 0)
unfolding said_bytes
byte_at [] i h = absurd (omega arith)
byte_at (x ∷ []) i h = absurd (omega arith)
byte_at (x ∷ y ∷ l) zero h = refl
byte_at (x ∷ y ∷ l) (suc i) h =
    let e : 2 * suc i ≡ suc (suc (2 * i)) = omega arith in
    let f : suc (suc (2 * i)) + 1 ≡ suc (suc (2 * i + 1)) = omega arith in
    rw (e, f) (byte_at l i (omega arith))

pub pair_is : (a b high low : ℕ) → a ≡ digit_value high → b ≡ digit_value low → (a * 16 + b) % 256 ≡ pair_of high low
unfolding pair_of
pair_is a b high low p q = rw (p, q)

-- No byte is put yet.
pub bytes-start : (l word : List ℕ) (at : ℕ) → l ≡ paste l at (said_bytes word) 0
bytes-start l word at = paste-zero l at (said_bytes word)

-- A byte more is put.
pub bytes-turn : (l out word : List ℕ) (at i r : ℕ) → out ≡ paste l at (said_bytes word) i → i < length word / 2
    → at + length word / 2 ≤ length l → r ≡ pair_of (get_or word (2 * i) 0) (get_or word (2 * i + 1) 0)
    → set out (at + i) r ≡ paste l at (said_bytes word) (i + 1)
bytes-turn l out word at i r inv h room q =
    rw (inv, q, ← byte_at word i h, add-one i)
    (paste-suc l at (said_bytes word) i 0 (omega arith) (rw (length-bytes word) h))

pub bytes-over : (l out word : List ℕ) (at i : ℕ) → out ≡ paste l at (said_bytes word) i → i ≤ length word / 2
    → length word / 2 ≤ i → out ≡ put l at (said_bytes word)
bytes-over l out word at i inv h g =
    let e : i ≡ length (said_bytes word) = rw (length-bytes word) (omega arith) in
    inv ∙ rw e (paste-put l at (said_bytes word))

-- ─── Words that are the same ───

pub same-is : (l m : List ℕ) → pointwise eqb l m ≡ same_word l m
unfolding same_word
same-is [] [] = refl
same-is [] (y ∷ m) = refl
same-is (x ∷ l) [] = refl
same-is (x ∷ l) (y ∷ m) = go (eqb x y) (same-is l m)
  where
    go : (b : Bool) → pointwise eqb l m ≡ same_word l m → (b && pointwise eqb l m) ≡ cond b (same_word l m) false
    go true ih = ih
    go false ih = refl
