-- Items read: each kind, and the item at its place in a field. Assumes nothing.
use Prim.Native.Nat.{ℕ, ◌+◌, ◌-◌, ◌<◌, ◌≤◌}
use mathlib.Core.Path.{◌≡◌, refl, sym, ◌∙◌}
use mathlib.Core.List.{List}
use mathlib.Core.Bool.{Bool, true, false}
use native.Mathlib.Nat.{add-sub_cancel_left}
use native.Mathlib.Omega.{arith}
use borrow.Author.Tests.{le-leb, lt-leb, eq-eqb, ne_eqb}
use lib.ListN.{length, get_or, take, drop, length-take, length-drop}
use Rattle.ftd.specs.Bytes.{part, be16_of, be32_of}
use Rattle.ftd.specs.Table.{word_kind, int_kind, string_kind, number_kind, float_kind, date_kind, row}
use Rattle.ftd.specs.Whole.{char_fits, char_value, word_value, int_value}
use Rattle.ftd.specs.Signed.{number_value, float_value}
use Rattle.ftd.specs.Texts.{text_value}
use Rattle.ftd.specs.Dates.{date_value}
use Rattle.ftd.specs.Places.{item_of}
use Rattle.ftd.specs.Item.{char, whole_as, typed_value, given_at, item_value_of}
use Rattle.ftd.specs.declared.item.FieldItem.{FieldItem}
use Rattle.ftd.specs.declared.item.FieldItem.TheVariants.{NoItem, NoValue, Char, Word, Int, Text, Number, Float}
use Rattle.ftd.specs.declared.item.FieldItem.TheVariants.{Date}
use Rattle.ftd.specs.Types.{Text as StringValue}
use Rattle.ftd.specs.declared.dates.Date.{Date as DateValue}
use Rattle.ftd.specs.declared.dates.Date.TheVariants.{NoDate, Unused, Day}
use Rattle.ftd.proofs.whole.Laws.{char-wide, char-wrong, char-read}
use Rattle.ftd.proofs.texts.Laws.{text-inside}
use Rattle.ftd.proofs.item.Laws.{wide_value}
use Rattle.std.specs.Prelude.{Some, None}
use Rattle.ftd.specs.Types.{MaybeItem, MaybeSigned}
use Rattle.ftd.specs.declared.places.ItemPlace.{ItemPlace}
use Rattle.ftd.specs.declared.signed.Signed.{Signed}

-- ─── By kind ───

module _ (kind scale : ℕ) (s : List ℕ) (start : ℕ) where
  module _ (e : kind ≡ word_kind) where
    pub word_none : (length s ≡ 2 → ⊥) → NoValue ≡ given_at start (typed_value kind scale s)
    unfolding typed_value word_value
    word_none h = rw (e, ne_eqb (length s) 2 h)

    pub word-given : length s ≡ 2 → (x : ℕ) → x ≡ be16_of s 0 → Word x ≡ given_at start (typed_value kind scale s)
    unfolding typed_value word_value
    word-given h x q = rw (e, eq-eqb (length s) 2 h, q)

  module _ (e : kind ≡ int_kind) where
    pub int-none : (length s ≡ 4 → ⊥) → NoValue ≡ given_at start (typed_value kind scale s)
    unfolding typed_value int_value
    int-none h = rw (e, ne_eqb (length s) 4 h)

    pub int-given : length s ≡ 4 → (x : ℕ) → x ≡ be32_of s 0 → Int x ≡ given_at start (typed_value kind scale s)
    unfolding typed_value int_value
    int-given h x q = rw (e, eq-eqb (length s) 4 h, q)

  module _ (e : kind ≡ string_kind) (o : StringValue) (q : o ≡ text_value s) where
    pub text-none : o ≡ None → NoValue ≡ given_at start (typed_value kind scale s)
    unfolding typed_value
    text-none h = rw (e, ← q, h)

    pub text-given : (n : ℕ) → o ≡ Some n → Text start n ≡ given_at start (typed_value kind scale s)
    unfolding typed_value
    text-given n h = rw (e, ← q, h, text-inside s n (sym q ∙ h))

  module _ (e : kind ≡ number_kind) (o : MaybeSigned) (q : o ≡ number_value s) where
    pub number-none : o ≡ None → NoValue ≡ given_at start (typed_value kind scale s)
    unfolding typed_value
    number-none h = rw (e, ← q, h)

    pub number-given : (v : Signed) → o ≡ Some v → Number v.negative v.units ≡ given_at start (typed_value kind scale s)
    unfolding typed_value
    number-given v h = rw (e, ← q, h)

  module _ (e : kind ≡ float_kind) (o : MaybeSigned) (q : o ≡ float_value scale s) where
    pub float-none : o ≡ None → NoValue ≡ given_at start (typed_value kind scale s)
    unfolding typed_value
    float-none h = rw (e, ← q, h)

    pub float-given : (v : Signed) → o ≡ Some v → Float v.negative v.units ≡ given_at start (typed_value kind scale s)
    unfolding typed_value
    float-given v h = rw (e, ← q, h)

  module _ (e : kind ≡ date_kind) (o : DateValue) (q : o ≡ date_value s) where
    pub date-none : o ≡ NoDate → NoValue ≡ given_at start (typed_value kind scale s)
    unfolding typed_value
    date-none h = rw (e, ← q, h)

    pub date-given : (o ≡ NoDate → ⊥) → Date o ≡ given_at start (typed_value kind scale s)
    unfolding typed_value
    date-given n = go o refl
      where
        go : (w : DateValue) → o ≡ w → Date o ≡ given_at start (typed_value kind scale s)
        go NoDate h = absurd (n h)
        go Unused h = rw (e, ← q, h)
        go (Day y m d) h = rw (e, ← q, h)

  module _
      (n1 : kind ≡ word_kind → ⊥)
      (n2 : kind ≡ int_kind → ⊥)
      (n3 : kind ≡ string_kind → ⊥)
      (n4 : kind ≡ number_kind → ⊥)
      (n5 : kind ≡ float_kind → ⊥)
      (n6 : kind ≡ date_kind → ⊥)
    where
      is-char : typed_value kind scale s ≡ whole_as char (char_value kind s)
      unfolding typed_value
      is-char =
          rw (
            ne_eqb kind word_kind n1,
            ne_eqb kind int_kind n2,
            ne_eqb kind string_kind n3,
            ne_eqb kind number_kind n4,
            ne_eqb kind float_kind n5,
            ne_eqb kind date_kind n6,
          )

      pub char-long : (length s ≡ 1 → ⊥) → NoValue ≡ given_at start (typed_value kind scale s)
      char-long h = rw (is-char, ← (char-wide kind s h))

      module _ (h : length s ≡ 1) (f : Bool) (q : f ≡ char_fits kind (get_or s 0 0)) where
        pub char-none : f ≡ false → NoValue ≡ given_at start (typed_value kind scale s)
        char-none e = rw (is-char, ← (char-wrong kind s h f q e))

        pub char-given : f ≡ true → Char (get_or s 0 0) ≡ given_at start (typed_value kind scale s)
        char-given e = rw (is-char, ← (char-read kind s h f q e (get_or s 0 0) refl))

-- ─── At its place ───

module _ (l : List ℕ) (fid i : ℕ) (p : MaybeItem) (q : p ≡ item_of fid i) where
  pub no_place : p ≡ None → NoItem ≡ item_value_of fid i l
  unfolding item_value_of
  no_place e = rw (← q, e)

  module _ (found : ItemPlace) (e : p ≡ Some found) where
    absent : length l < found.start + found.width → NoItem ≡ item_value_of fid i l
    unfolding item_value_of
    absent h = rw (← q, e, lt-leb (found.start + found.width) (length l) h)

    pub place-behind : length l < found.start → NoItem ≡ item_value_of fid i l
    place-behind h = absent (omega arith)

    module _ (order : found.start ≤ length l) where
      pub place_short : length l - found.start < found.width → NoItem ≡ item_value_of fid i l
      place_short h = absent (omega arith)

      pub place_read : found.width ≤ length l - found.start → (r : FieldItem)
          → r ≡ given_at found.start (typed_value found.kind found.scale (take (found.start + found.width - found.start) (drop found.start l)))
          → r ≡ item_value_of fid i l
      unfolding item_value_of
      place_read h r g =
          let n : length (part l found.start found.width) ≡ found.width = rw (length-take, length-drop) (omega arith) in
          rw (
            ← q,
            e,
            le-leb (found.start + found.width) (length l) (omega arith),
            wide_value (row fid found.kind found.width found.scale)
                (part l found.start found.width) n,
          )
          (rw add-sub_cancel_left at g)
