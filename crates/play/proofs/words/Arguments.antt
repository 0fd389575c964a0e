-- The words behind the first one, over plain variables. Assumes nothing.
use Prim.Native.Nat.{ℕ, zero, suc, ◌+◌, ◌-◌, ◌<◌, ◌≤◌}
use mathlib.Core.Path.{◌≡◌, refl, sym, ◌∙◌}
use mathlib.Core.List.{List, [], ◌∷◌, ◌++◌, append-nil}
use mathlib.Core.Bool.{Bool, true, false, not, cond}
use native.Mathlib.Nat.{add-sub_cancel_left}
use native.Mathlib.Numerals.{add-one}
use native.Mathlib.Omega.{arith}
use borrow.Author.Tests.{lt-ltb, le-ltb, ne_eqb}
use lib.ListN.{length, take, drop, get_or, set, drop_of_length-le, length-append, length-take, length-drop}
use lib.Seq.{drop-cons, set_at, append_snoc, take_at, length-take-le}
use lib.Dec.{eqb, ltb}
use Rattle.play.specs.Words.{up_to_space, end_of, number_in, says_bytes, next_end, end_at, argument, has_arguments}
use Rattle.play.specs.Words.{all_bytes, numbers_behind, number_count, number_up_to, list_from}
use Rattle.play.specs.Words.{series_in, says_share, series_at, shares_behind, share_count}
use Rattle.play.specs.Words.{same_word, has_name, name_in}

-- ─── Where words end ───

pub next-some : (line : List ℕ) (e r : ℕ) → e < length line → r ≡ end_of line (e + 1) → r ≡ next_end line e
unfolding next_end
next-some line e r h q = rw (lt-ltb e (length line) h) q

pub next-none : (line : List ℕ) (e : ℕ) → length line ≤ e → length line + 1 ≡ next_end line e
unfolding next_end
next-none line e h = rw (le-ltb e (length line) h)

pub end-first : (line : List ℕ) (e : ℕ) → e ≡ end_of line 0 → e ≡ end_at line 0
unfolding end_at
end-first line e q = q

pub end-turn : (line : List ℕ) (k e f : ℕ) → e ≡ end_at line k → f ≡ next_end line e → f ≡ end_at line (k + 1)
unfolding end_at
end-turn line k e f inv q = rw (add-one k, ← inv) q

pub end-over : (line : List ℕ) (k i e : ℕ) → e ≡ end_at line k → k ≤ i → i ≤ k → e ≡ end_at line i
end-over line k i e inv h g = let q : i ≡ k = omega arith in rw q inv

-- ─── An argument ───

module _ (line : List ℕ) (i a : ℕ) (p : a ≡ end_at line i) where
  pub argument-some : (b : ℕ) → b ≡ end_of line (a + 1) → take (b - (a + 1)) (drop (a + 1) line) ≡ argument line i
  unfolding argument end_of
  argument-some b q = rw (← p, q, add-sub_cancel_left)

  pub argument-none : length line ≤ a → [] ≡ argument line i
  unfolding argument up_to_space
  argument-none h = rw (← p, drop_of_length-le line {i = a + 1} (omega arith))

  pub count-is : eqb a (length line) ≡ has_arguments line i
  unfolding has_arguments
  count-is = rw (← p)

-- ─── Names ───

module _ (line : List ℕ) (b : Bool) (q : b ≡ has_arguments line 1) where
  pub name-there : (w : List ℕ) → b ≡ true → w ≡ argument line 0 → not (eqb (length w) 0) ≡ has_name line
  unfolding has_name
  name-there w e f = rw (← q, e, ← f) (go w)
    where
      go : (w : List ℕ) → not (eqb (length w) 0) ≡ ltb 0 (length w)
      go [] = refl
      go (x ∷ w) = rw (ne_eqb (length (x ∷ w)) 0 (λ e. omega (arith, e)), lt-ltb 0 (length (x ∷ w)) (omega arith)) refl

  pub no_name : b ≡ false → false ≡ has_name line
  unfolding has_name
  no_name e = rw (← q, e)

module _ (w : List ℕ) (b : Bool) (q : b ≡ same_word w (45 ∷ [])) where
  pub name-empty : b ≡ true → [] ≡ name_in w
  unfolding name_in
  name-empty e = rw (← q, e)

  pub name-whole : b ≡ false → w ≡ name_in w
  unfolding name_in
  name-whole e = rw (← q, e)

-- It is no longer than the line.
pub argument-short : (line : List ℕ) (i : ℕ) → length (argument line i) ≤ length line
unfolding argument
argument-short line i = rw (length-take, length-drop) (omega arith)

-- Its number.
pub number_is : (line : List ℕ) (i : ℕ) (w : List ℕ) → w ≡ argument line i → (x : ℕ) → x ≡ number_in 10 w
    → x ≡ number_in 10 (argument line i)
number_is line i w q x e = rw (← q) e

-- ─── Arguments that say bytes ───

module _ (line : List ℕ) (i k j : ℕ) (t : Bool) (inv : all_bytes line (i + j) (k - j) ≡ t) where
  module _ (h : j < k) (w : List ℕ) (p : w ≡ argument line (i + j)) (b : Bool) (q : b ≡ says_bytes w) where
    bytes-step : cond b (all_bytes line ((i + j) + 1) (k - (j + 1))) false ≡ t
    unfolding all_bytes
    bytes-step = let e : k - j ≡ suc (k - (j + 1)) = omega arith in rw (q, p) (rw e at inv)

    pub bytes-more : b ≡ true → all_bytes line (i + (j + 1)) (k - (j + 1)) ≡ t
    bytes-more y = let e : i + (j + 1) ≡ (i + j) + 1 = omega arith in rw e (rw y at bytes-step)

    pub bytes-wrong : b ≡ false → false ≡ t
    bytes-wrong y = rw y at bytes-step

  pub all-over : k ≤ j → true ≡ t
  unfolding all_bytes
  all-over h = let e : k - j ≡ 0 = omega arith in rw e at inv

pub bytes-first : (line : List ℕ) (i k : ℕ) → all_bytes line (i + 0) (k - 0) ≡ all_bytes line i k
bytes-first line i k =
    let e : i + 0 ≡ i = omega arith in
    let f : k - 0 ≡ k = omega arith in
    rw (e, f)

-- ─── Lists of numbers ───

module _ (top most : ℕ) (line : List ℕ) (i n t : ℕ) (inv : numbers_behind top most line i n ((most + 1) - n) ≡ t) where
  module _ (h : n ≤ most) (b : Bool) (p : b ≡ has_arguments line (i + n)) where
    count-step : cond b n (cond (ltb top (number_in 10 (argument line (i + n)))) (most + 1)
        (numbers_behind top most line i (n + 1) ((most + 1) - (n + 1)))) ≡ t
    unfolding numbers_behind
    count-step = let e : (most + 1) - n ≡ suc ((most + 1) - (n + 1)) = omega arith in rw p (rw e at inv)

    pub count-end : b ≡ true → n ≡ t
    count-end y = rw y at count-step

    module _ (y : b ≡ false) (a : Bool) (q : a ≡ ltb top (number_in 10 (argument line (i + n)))) where
      pub count-wrong : a ≡ true → most + 1 ≡ t
      count-wrong g = rw (y, ← q, g) at count-step

      pub count-more : a ≡ false → numbers_behind top most line i (n + 1) ((most + 1) - (n + 1)) ≡ t
      count-more g = rw (y, ← q, g) at count-step

  pub count-over : most < n → most + 1 ≡ t
  unfolding numbers_behind
  count-over h = let e : (most + 1) - n ≡ 0 = omega arith in rw e at inv

pub count-first : (top most : ℕ) (line : List ℕ) (i : ℕ)
    → numbers_behind top most line i 0 ((most + 1) - 0) ≡ number_count top most line i
unfolding number_count
count-first top most line i = let e : (most + 1) - 0 ≡ most + 1 = omega arith in rw e

module _ (top : ℕ) (line : List ℕ) (i : ℕ) (w : List ℕ) (q : w ≡ argument line i) (x : ℕ) (e : x ≡ number_in 10 w) where
  pub above-is : ltb top x ≡ ltb top (number_in 10 (argument line i))
  above-is = rw (← q, ← e)

  pub above-top : top < x → 0 ≡ number_up_to top line i
  unfolding number_up_to
  above-top g = rw (← q, ← e, lt-ltb top x g)

  pub up-to-top : x ≤ top → x ≡ number_up_to top line i
  unfolding number_up_to
  up-to-top g = rw (← q, ← e, le-ltb top x g)

-- ─── Series with their reserves ───

module _ (line : List ℕ) (i n t : ℕ) (inv : shares_behind line i n (65 - n) ≡ t) where
  module _ (h : n ≤ 64) (b : Bool) (p : b ≡ has_arguments line (i + n)) where
    share-step : cond b n (cond (says_share (argument line (i + n))) (shares_behind line i (n + 1) (65 - (n + 1))) 65) ≡ t
    unfolding shares_behind
    share-step = let e : 65 - n ≡ suc (65 - (n + 1)) = omega arith in rw p (rw e at inv)

    pub share-end : b ≡ true → n ≡ t
    share-end y = rw y at share-step

    module _ (y : b ≡ false) (w : List ℕ) (g : w ≡ argument line (i + n)) (a : Bool) (q : a ≡ says_share w) where
      pub share-wrong : a ≡ false → 65 ≡ t
      share-wrong z = rw (y, ← g, ← q, z) at share-step

      pub share-more : a ≡ true → shares_behind line i (n + 1) (65 - (n + 1)) ≡ t
      share-more z = rw (y, ← g, ← q, z) at share-step

  pub share-over : 64 < n → 65 ≡ t
  unfolding shares_behind
  share-over h = let e : 65 - n ≡ 0 = omega arith in rw e at inv

pub share-first : (line : List ℕ) (i : ℕ) → shares_behind line i 0 (65 - 0) ≡ share_count line i
unfolding share_count
share-first line i = let e : 65 - 0 ≡ 65 = omega arith in rw e

-- The series and the reserve of an argument.
module _ (line : List ℕ) (i : ℕ) (w : List ℕ) (q : w ≡ argument line i) where
  module _ (x : ℕ) (e : x ≡ series_in w) where
    pub no-series : 65535 < x → 0 ≡ series_at line i
    unfolding series_at
    no-series g = rw (← q, ← e, lt-ltb 65535 x g)

    pub some-series : x ≤ 65535 → x ≡ series_at line i
    unfolding series_at
    some-series g = rw (← q, ← e, le-ltb 65535 x g)

-- ─── Lists of values ───

length-list : (value : ℕ → ℕ) (i n : ℕ) → length (list_from value i n) ≡ n
unfolding list_from
length-list value i zero = refl
length-list value i (suc n) = rw length-append (let e = length-list value i n in omega (arith, e))

module _ (value : ℕ → ℕ) (l : List ℕ) (i : ℕ) where
  pub list-first : l ≡ list_from value i 0 ++ drop 0 l
  unfolding list_from
  list-first = refl

  module _ (out : List ℕ) (k : ℕ) (inv : out ≡ list_from value i k ++ drop k l) where
    pub list-turn : (v : ℕ) → length out ≡ length l → k < length out → v ≡ value (i + k)
        → set out k v ≡ list_from value i (k + 1) ++ drop (k + 1) l
    unfolding list_from
    list-turn v e h q =
        let some : List ℕ = list_from value i k in
        rw (inv, drop-cons l k 0 (omega arith), add-one k, ← q)
        (set_at some (get_or l k 0) (drop (suc k) l) v k (length-list value i k)
        ∙ sym (append_snoc some v (drop (suc k) l)))

    -- The list's front part is the values.
    pub list-front : take k out ≡ list_from value i k
    list-front = rw inv (take_at (list_from value i k) (drop k l) k (length-list value i k))

  -- All values are in the front part.
  pub list-whole : (out : List ℕ) (k n : ℕ) → out ≡ list_from value i k ++ drop k (take n l) → n ≤ length l
      → length (take n l) ≤ k → k ≤ length (take n l) → out ++ drop n l ≡ list_from value i n ++ drop n l
  list-whole out k n inv h g f =
      let w : length (take n l) ≡ n = length-take-le n l h in
      let e : k ≡ n = omega arith in
      rw (inv, e, drop_of_length-le (take n l) {i = n} (omega arith), append-nil (list_from value i n)) refl
