-- What the checks of bytes decide, and the turns of their loop, over plain variables. Assumes nothing.
use Prim.Native.Nat.{ℕ, suc, ◌+◌, ◌-◌, ◌*◌, ◌<◌, ◌≤◌}
use mathlib.Core.Path.{◌≡◌, refl, ◌∙◌}
use mathlib.Core.List.{List, [], ◌∷◌, ◌++◌}
use mathlib.Core.Bool.{Bool, true, false, cond, not, ◌&&◌}
use native.Mathlib.Omega.{arith}
use borrow.Author.Tests.{lt-ltb, le-ltb, le-leb, lt-leb, eq-eqb, ne_eqb}
use lib.ListN.{length, get_or, take, drop, length-append, length-take, get_or-append}
use lib.Seq.{get_or-take, take-length, drop-append-le}
use lib.Dec.{leb, ltb, eqb, T, ltb→lt}
use Rattle.std.specs.List.{fold}
use Rattle.ftd.specs.Table.{char_kind, word_kind, int_kind, string_kind, number_kind, float_kind, date_kind, first_listed}
use Rattle.ftd.specs.Table.{last_listed, enumerations}
use Rattle.ftd.specs.Table.Helpers.{all_below}
use Rattle.ftd.specs.Values.{every, among, is_listed, is_number, without_point, is_float, month_of, day_digits}
use Rattle.ftd.specs.Values.{year_of, is_date, is_value}
use Rattle.ftd.specs.Gregorian.{real_date}
use Rattle.ftd.specs.Values.Helpers.{in_class}
use Rattle.ftd.specs.declared.values.Class.TheVariants.{Text, Digit, Zero, Space}
use Rattle.ftd.proofs.table.Rule.{both_left, both_right, below_at}

-- ─── The bytes of a part ───

-- A walk to the end: what was found so far, and the rest.
pub fold-every : (p : ℕ → Bool) (g : Bool) (l : List ℕ) → fold (λ (a : Bool) (b : ℕ). a && p b) g l ≡ (g && every p l)
fold-every p true [] = refl
fold-every p false [] = refl
fold-every p g (x ∷ xs) = fold-every p (g && p x) xs ∙ and_assoc g (p x) (every p xs)
  where
    and_assoc : (a b c : Bool) → ((a && b) && c) ≡ (a && (b && c))
    and_assoc true b c = refl
    and_assoc false b c = refl

pub every_append : (p : ℕ → Bool) (a b : List ℕ) → every p (a ++ b) ≡ (every p a && every p b)
every_append p [] b = refl
every_append p (x ∷ xs) b = go (p x) (every_append p xs b)
  where
    go : (c : Bool) → every p (xs ++ b) ≡ (every p xs && every p b)
        → (c && every p (xs ++ b)) ≡ ((c && every p xs) && every p b)
    go true e = e
    go false e = refl

-- ─── Number ───

module _ (s : List ℕ) (point behind : ℕ) (low : 1 ≤ point) (order : point ≤ behind) (fits : behind ≤ length s) where
  some : 0 < length (take point s)
  some = rw length-take (omega arith)

  pub first : get_or (take point s ++ drop behind s) 0 0 ≡ get_or s 0 0
  first = get_or-append (take point s) (drop behind s) 0 0 some ∙ get_or-take {A = ℕ} point s 0 0 (omega arith)

  pub rest : drop 1 (take point s ++ drop behind s) ≡ drop 1 (take point s) ++ drop behind s
  rest = drop-append-le 1 (take point s) (drop behind s) (omega (arith, some))

  module _ (minus : get_or s 0 0 ≡ 45) (d : Bool) (q : d ≡ every (in_class Digit) (drop 1 (take point s) ++ drop behind s))
    where
      pub minus-wrong : d ≡ false → d ≡ is_number (take point s ++ drop behind s)
      unfolding is_number
      minus-wrong w = rw (first, eq-eqb _ _ minus, rest, ← q, w)

      module _ (w : d ≡ true) (z : Bool) (y : z ≡ every (in_class Zero) (drop 1 (take point s) ++ drop behind s)) where
        pub minus_number : not z ≡ is_number (take point s ++ drop behind s)
        unfolding is_number
        minus_number = rw (first, eq-eqb _ _ minus, rest, ← q, w, ← y)

  pub plain-number : (get_or s 0 0 ≡ 45 → ⊥) → (d : Bool)
      → d ≡ every (in_class Digit) (drop 0 (take point s) ++ drop behind s)
      → d ≡ is_number (take point s ++ drop behind s)
  unfolding is_number
  plain-number n d q =
      let l : 0 < length (take point s ++ drop behind s) = rw length-append (omega (arith, some)) in
      rw (first, ne_eqb _ _ n, lt-ltb 0 _ l) q

pub empty-number : (s : List ℕ) → length s ≡ 0 → false ≡ is_number s
unfolding is_number
empty-number [] h = refl
empty-number (x ∷ xs) h = absurd (omega arith)

-- ─── Float ───

module _ (s : List ℕ) (scale n : ℕ) (e : n ≡ scale) where
  pub float-short : length s < n + 2 → false ≡ is_float scale s
  unfolding is_float
  float-short h = rw (← e, lt-leb (n + 2) (length s) h)

  module _ (h : n + 2 ≤ length s) where
    pub float-wrong : (get_or s (length s - (n + 1)) 0 ≡ 46 → ⊥) → eqb (get_or s (length s - (n + 1)) 0) 46 ≡ is_float scale s
    unfolding is_float
    float-wrong w = rw (← e, le-leb (n + 2) (length s) h, ne_eqb _ _ w)

    pub float-right : get_or s (length s - (n + 1)) 0 ≡ 46 → (r : Bool)
        → r ≡ is_number (take (length s - (n + 1)) s ++ drop (length s - (n + 1) + 1) s) → r ≡ is_float scale s
    unfolding is_float without_point
    float-right w r q = rw (← e, le-leb (n + 2) (length s) h, eq-eqb _ _ w) q

-- ─── Date ───

module _ (s : List ℕ) where
  pub date-width : (length s ≡ 8 → ⊥) → eqb (length s) 8 ≡ is_date s
  unfolding is_date
  date-width h = rw (ne_eqb _ _ h)

  module _ (h : length s ≡ 8) (a : Bool) (p : a ≡ every (in_class Space) (drop 0 (take 8 s))) where
    all : take 8 s ≡ s
    all = rw (← h, take-length)

    pub date-spaces : a ≡ true → a ≡ is_date s
    unfolding is_date
    date-spaces w = rw (eq-eqb _ _ h, ← (rw all at p), w)

    module _ (w : a ≡ false) (b : Bool) (q : b ≡ every (in_class Digit) (drop 0 (take 8 s))) where
      pub date-other : b ≡ false → b ≡ is_date s
      unfolding is_date
      date-other v = rw (eq-eqb _ _ h, ← (rw all at p), w, ← (rw all at q), v)

      pub date-digits : b ≡ true → (r : Bool) → r ≡ real_date (year_of s) (month_of s) (day_digits s) → r ≡ is_date s
      unfolding is_date
      date-digits v r x = rw (eq-eqb _ _ h, ← (rw all at p), w, ← (rw all at q), v) x

-- ─── Char with an enumeration ───

-- The enumerations with 0, eight entries for each, as the code has them.
unfoldable pub listed : List ℕ
listed =
    1 ∷ 1 ∷ 1 ∷ 0 ∷ 0 ∷ 0 ∷ 0 ∷ 0
    ∷ 1 ∷ 1 ∷ 0 ∷ 0 ∷ 0 ∷ 0 ∷ 0 ∷ 0
    ∷ 1 ∷ 0 ∷ 0 ∷ 0 ∷ 0 ∷ 0 ∷ 0 ∷ 0
    ∷ 1 ∷ 1 ∷ 0 ∷ 1 ∷ 0 ∷ 0 ∷ 0 ∷ 0
    ∷ 1 ∷ 1 ∷ 1 ∷ 1 ∷ 1 ∷ 0 ∷ 0 ∷ 0
    ∷ 1 ∷ 1 ∷ 1 ∷ 1 ∷ 1 ∷ 1 ∷ 0 ∷ 0
    ∷ 1 ∷ 1 ∷ 1 ∷ 1 ∷ 1 ∷ 1 ∷ 1 ∷ 1
    ∷ 1 ∷ 1 ∷ 1 ∷ 1 ∷ 0 ∷ 0 ∷ 0 ∷ 0
    ∷ 1 ∷ 1 ∷ 1 ∷ 1 ∷ 1 ∷ 1 ∷ 0 ∷ 0
    ∷ 1 ∷ 1 ∷ 1 ∷ 1 ∷ 1 ∷ 1 ∷ 1 ∷ 0 ∷ []

abbrev same_bool : Bool → Bool → Bool
same_bool a b = cond a b (not b)

same_bool-is : (a b : Bool) → T (same_bool a b) → a ≡ b
same_bool-is true true t = refl
same_bool-is true false t = absurd t
same_bool-is false true t = absurd t
same_bool-is false false t = refl

abbrev listed_right : ℕ → ℕ → Bool
listed_right k b = same_bool (eqb (get_or listed (k * 8 + b) 0) 1) (is_listed (k + 7) b)

-- Each entry says what the enumeration does, and no enumeration lists 8 or more.
entries : T (all_below (λ k. all_below (listed_right k) 8) 10)
unfolding listed is_listed enumerations
entries = tt

small : T (all_below (λ k. every (λ v. ltb v 8) (get_or enumerations k [])) 10)
unfolding enumerations
small = tt

among-over : (b : ℕ) → 8 ≤ b → (l : List ℕ) → T (every (λ v. ltb v 8) l) → among b l ≡ false
among-over b h [] t = refl
among-over b h (v ∷ vs) t =
    let w : v < 8 = ltb→lt v 8 (both_left (ltb v 8) (every (λ x. ltb x 8) vs) t) in
    rw (ne_eqb b v (λ e. omega arith)) (among-over b h vs (both_right (ltb v 8) (every (λ x. ltb x 8) vs) t))

module _ (kind : ℕ) (low : first_listed ≤ kind) (high : kind ≤ last_listed) (b : ℕ) where
  pub listed-over : 8 ≤ b → ltb b 8 ≡ is_listed kind b
  unfolding is_listed
  listed-over h =
      let k : kind - first_listed < 10 = omega arith in
      rw (
        le-ltb b 8 h,
        ne_eqb b 0 (λ e. omega arith),
        among-over b h (get_or enumerations (kind - first_listed) [])
            (below_at (λ k. every (λ v. ltb v 8) (get_or enumerations k [])) 10 small (kind - first_listed) k),
      )

  pub listed-entry : b < 8 → (m n : ℕ) → m ≡ kind - first_listed → n ≡ b
      → eqb (get_or listed (m * 8 + n) 0) 1 ≡ is_listed kind b
  listed-entry h m n x y =
      let k : kind - first_listed < 10 = omega arith in
      let e : kind - first_listed + 7 ≡ kind = omega arith in
      let t : T (listed_right (kind - first_listed) b) =
      below_at (listed_right (kind - first_listed)) 8
      (below_at (λ k. all_below (listed_right k) 8) 10 entries (kind - first_listed) k) b h in
      let g : eqb (get_or listed ((kind - first_listed) * 8 + b) 0) 1 ≡ is_listed (kind - first_listed + 7) b =
      same_bool-is _ _ t in
      rw (x, y) (rw e at g)

-- ─── A value, by kind ───

after : (k n : ℕ) → n ≤ k → (k ≡ n → ⊥) → suc n ≤ k
after k n h e = omega arith

module _ (kind scale : ℕ) (s : List ℕ) where
  pub char-value : kind ≡ char_kind → eqb (length s) 1 ≡ is_value kind scale s
  unfolding is_value
  char-value e = rw e

  pub word_value : kind ≡ word_kind → eqb (length s) 2 ≡ is_value kind scale s
  unfolding is_value
  word_value e = rw e

  pub int-value : kind ≡ int_kind → eqb (length s) 4 ≡ is_value kind scale s
  unfolding is_value
  int-value e = rw e

  pub text-value : kind ≡ string_kind → (r : Bool) → r ≡ every (in_class Text) (drop 0 (take (length s) s))
      → r ≡ is_value kind scale s
  unfolding is_value
  text-value e r q = rw e (rw take-length at q)

  pub number-value : kind ≡ number_kind → (r : Bool) → r ≡ is_number s → r ≡ is_value kind scale s
  unfolding is_value
  number-value e r q = rw e q

  pub float_value : kind ≡ float_kind → (r : Bool) → r ≡ is_float scale s → r ≡ is_value kind scale s
  unfolding is_value
  float_value e r q = rw e q

  pub date-value : kind ≡ date_kind → (r : Bool) → r ≡ is_date s → r ≡ is_value kind scale s
  unfolding is_value
  date-value e r q = rw e q

  not-below : first_listed ≤ kind → (n : ℕ) → n < first_listed → eqb kind n ≡ false
  not-below h n k = ne_eqb kind n (λ e. omega arith)

  -- None of the kinds without an enumeration, as a `match` says it.
  abbrev Not : ℕ → Type 0
  Not n = kind ≡ n → ⊥

  abbrev pub Other : Type 0
  Other =
      (((((((Unit {0} × Not char_kind) × Not word_kind) × Not int_kind) × Not string_kind) × Not number_kind)
      × Not float_kind) × Not date_kind)

  pub above : Other → first_listed ≤ kind
  above o =
      after kind date_kind (after kind float_kind (after kind number_kind (after kind string_kind (after kind int_kind
      (after kind word_kind (after kind char_kind (omega arith)
      o.0.0.0.0.0.0.1) o.0.0.0.0.0.1) o.0.0.0.0.1) o.0.0.0.1) o.0.0.1) o.0.1)
      o.1

  module _ (other : Other) where
    low : first_listed ≤ kind
    low = above other

    passed : is_value kind scale s ≡ cond (leb kind last_listed) (eqb (length s) 1 && is_listed kind (get_or s 0 0)) false
    unfolding is_value
    passed =
        rw (
          not-below low char_kind (omega arith),
          not-below low word_kind (omega arith),
          not-below low int_kind (omega arith),
          not-below low string_kind (omega arith),
          not-below low number_kind (omega arith),
          not-below low float_kind (omega arith),
          not-below low date_kind (omega arith),
        )

    pub listed-value : kind < 17 → length s ≡ 1 → (r : Bool) → r ≡ is_listed kind (get_or s 0 0) → r ≡ is_value kind scale s
    listed-value h e r q = rw (passed, le-leb kind last_listed (omega arith), eq-eqb _ _ e) q

    pub listed-wide : kind < 17 → (length s ≡ 1 → ⊥) → eqb (length s) 1 ≡ is_value kind scale s
    listed-wide h e = rw (passed, le-leb kind last_listed (omega arith), ne_eqb _ _ e)

    pub no_kind : 17 ≤ kind → false ≡ is_value kind scale s
    no_kind h = rw (passed, lt-leb kind last_listed (omega arith))
