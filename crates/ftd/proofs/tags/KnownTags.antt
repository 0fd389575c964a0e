-- The table of known tags, one row at a time. Assumes nothing.
use Prim.Native.Nat.{ℕ, zero, suc, ◌+◌, ◌<◌, ◌≤◌}
use mathlib.Core.Path.{◌≡◌, refl, sym}
use mathlib.Core.List.{List, map}
use mathlib.Core.Bool.{cond}
use native.Mathlib.Numerals.{add-one}
use native.Mathlib.Omega.{arith}
use borrow.Author.Tests.{eq-eqb, ne_eqb}
use lib.ListN.{length, get_or, drop, drop_of_length-le, get_or-map}
use lib.Seq.{drop-cons}
use lib.Dec.{eqb}
use Rattle.ftd.specs.Tags.{KnownTag, known_tag, known_tags, right_in, length_right}
use Rattle.ftd.specs.Tags.Helpers.{KnownRow}

-- The table in columns, as the code has it.
unfoldable pub kinds : List ℕ
kinds = map (λ (k : KnownTag). k.kind) known_tags

unfoldable pub lengths : List ℕ
lengths = map (λ (k : KnownTag). k.size) known_tags

eight : length known_tags ≡ 8
unfolding known_tags
eight = refl

row : (kind len i : ℕ) → i < 8 →
    right_in (drop i known_tags) kind len ≡ cond (eqb (get_or kinds i 0) kind) (eqb (get_or lengths i 0) len)
    (right_in (drop (i + 1) known_tags) kind len)
unfolding kinds lengths
row kind len i h =
    let k : i < length known_tags = rw eight h in
    rw (
      get_or-map (λ (r : KnownTag). r.kind) known_tags i (known_tag 0 0),
      get_or-map (λ (r : KnownTag). r.size) known_tags i (known_tag 0 0),
      add-one,
      drop-cons known_tags i (known_tag 0 0),
    )

-- The search for a kind's row.
module _ (kind i : ℕ) (inv : (len : ℕ) → right_in (drop i known_tags) kind len ≡ length_right kind len) where
  pub row_here : i < 8 → get_or kinds i 0 ≡ kind → KnownRow kind i
  unfolding kinds
  row_here h e = record { low = omega arith; here = λ w. e; same = inv }

  pub row-turn : i < 8 → (get_or kinds i 0 ≡ kind → ⊥) → (len : ℕ)
      → right_in (drop (i + 1) known_tags) kind len ≡ length_right kind len
  row-turn h e len = rw (row kind len i h, ne_eqb (get_or kinds i 0) kind e) at (inv len)

  pub row-end : i ≤ 8 → 8 ≤ i → KnownRow kind 8
  row-end a b =
      let e : i ≡ 8 = omega arith in
      record { low = omega arith; here = λ w. absurd (omega arith); same = λ len. rw (← e) (inv len) }

-- The first seven kinds are their rows.
kind-first : (i : ℕ) → i < 7 → get_or kinds i 0 ≡ i
unfolding kinds known_tags
kind-first zero h = refl
kind-first (suc zero) h = refl
kind-first (suc (suc zero)) h = refl
kind-first (suc (suc (suc zero))) h = refl
kind-first (suc (suc (suc (suc zero)))) h = refl
kind-first (suc (suc (suc (suc (suc zero))))) h = refl
kind-first (suc (suc (suc (suc (suc (suc zero)))))) h = refl
kind-first (suc (suc (suc (suc (suc (suc (suc i))))))) h = absurd (omega arith)

-- No row before that of a kind has it.
passed : (kind n : ℕ) → n ≤ 7 → n ≤ kind → (len : ℕ) → right_in (drop n known_tags) kind len ≡ length_right kind len
unfolding length_right
passed kind zero h k len = refl
passed kind (suc n) h k len =
    rw (← (add-one n))
    (row-turn kind n (passed kind n (omega arith) (omega arith)) (omega arith)
    (λ e. let f = kind-first n (omega arith) in omega arith) len)

pub row_first : (kind r : ℕ) → r ≡ kind → kind < 7 → KnownRow kind r
row_first kind r e h =
    rw e (row_here kind kind (passed kind kind (omega arith) (omega arith)) (omega arith) (kind-first kind h))

module _ (kind : ℕ) (h : 7 ≤ kind) where
  from_last : (len : ℕ) → right_in (drop 7 known_tags) kind len ≡ length_right kind len
  from_last = passed kind 7 (omega arith) h

  pub row_last : kind ≡ 0x70 → KnownRow kind 7
  unfolding kinds known_tags
  row_last e = row_here kind 7 from_last (omega arith) (sym e)

  pub row-none : (kind ≡ 0x70 → ⊥) → KnownRow kind 8
  unfolding kinds known_tags
  row-none k =
      row-end kind 8 (row-turn kind 7 from_last (omega arith) (λ e. k (sym e))) (omega arith) (omega arith)

-- What the row says of a length.
module _ (kind len r : ℕ) (k : KnownRow kind r) where
  pub right-over : r ≡ 8 → eqb r 8 ≡ length_right kind len
  right-over e =
      let b : length known_tags ≤ r = rw (eight, e) (omega arith) in
      rw (eq-eqb r 8 e) (rw (drop_of_length-le known_tags b) at (k.same len))

  pub right-row : (r ≡ 8 → ⊥) → eqb (get_or lengths r 0) len ≡ length_right kind len
  unfolding kinds
  right-row e =
      let h : r < 8 = omega (arith, k.low) in
      rw (row kind len r h, eq-eqb (get_or kinds r 0) kind (k.here h)) at (k.same len)
