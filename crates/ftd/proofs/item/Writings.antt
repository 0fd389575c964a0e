-- Items written: each type, and the item by its place. Assumes nothing.
use Prim.Native.Nat.{ℕ, ◌<◌}
use mathlib.Core.Path.{◌≡◌, refl, sym, ◌∙◌}
use mathlib.Core.Logic.{◌⊎◌, inl, inr}
use mathlib.Core.Option.{some}
use mathlib.Core.List.{List, [], ◌∷◌}
use mathlib.Core.Bool.{Bool, true, false, false≢true}
use borrow.Author.Tests.{lt-ltb}
use lib.Dec.{eqb}
use Rattle.ftd.specs.Bytes.{bytes16, bytes32}
use Rattle.ftd.specs.Write.{written_answer, written_output, fit_verdict}
use Rattle.ftd.specs.Signed.Write.{number_bytes, number_fits, float_bytes, float_fits}
use Rattle.ftd.specs.Table.{word_kind, int_kind, string_kind, number_kind, float_kind, date_kind, row}
use Rattle.ftd.specs.Whole.{char_fits}
use Rattle.ftd.specs.Texts.{text_bytes, text_fits}
use Rattle.ftd.specs.Dates.{date_bytes, date_fits}
use Rattle.ftd.specs.Places.{item_of}
use Rattle.ftd.specs.Item.{ItemValue, char, word, int, text, number, float, date, value_bytes, fits, taken_as}
use Rattle.ftd.specs.Item.{fits_at, item_fits, item_written}
use Rattle.ftd.specs.Item.Helpers.{of_kind}
use Rattle.ftd.specs.declared.item.FieldItem.{FieldItem}
use Rattle.ftd.specs.declared.item.FieldItem.TheVariants.{NoItem, NoValue, Char, Word, Int, Text, Number, Float}
use Rattle.ftd.specs.declared.item.FieldItem.TheVariants.{Date}
use Rattle.ftd.specs.declared.dates.Date.{Date as DateValue}
use Rattle.ftd.specs.declared.refusal.Refusal.TheVariants.{Item}
use Rattle.ftd.specs.Types.{Written}
use Rattle.std.specs.Prelude.{None, Err}
use Rattle.ftd.specs.Types.{MaybeItem, some_item}
use Rattle.ftd.specs.declared.write.WriteError.TheVariants.{Refused}

-- What a writer answers and leaves.
abbrev pub Wrote : Bool → List ℕ → List ℕ → Written → List ℕ → Type 0
Wrote f bytes out a new = (a ≡ written_answer (fit_verdict f) bytes out) × (new ≡ written_output (fit_verdict f) bytes out)

-- What is of another type does not fit.
other_fits : (v : FieldItem) (t : List ℕ) (fid kind scale start width : ℕ) → of_kind kind v ≡ false
    → fits_at fid (some_item kind scale start width) (taken_as v t) ≡ false
unfolding fits
other_fits NoItem t fid kind scale start width h = refl
other_fits NoValue t fid kind scale start width h = refl
other_fits (Char b) t fid kind scale start width h = absurd (false≢true (sym h))
other_fits (Word x) t fid kind scale start width h = rw h
other_fits (Int x) t fid kind scale start width h = rw h
other_fits (Text at len) t fid kind scale start width h = rw h
other_fits (Number n x) t fid kind scale start width h = rw h
other_fits (Float n x) t fid kind scale start width h = rw h
other_fits (Date d) t fid kind scale start width h = rw h

-- ─── By place ───

-- So it is of a value as item i of a field.
abbrev ItemWrote : ℕ → ℕ → FieldItem → List ℕ → List ℕ → Written → List ℕ → Type 0
ItemWrote fid i v t out a new = Wrote (item_fits fid i v t) (item_written fid i v t) out a new

module _ (fid i : ℕ) (v : FieldItem) (t out : List ℕ) (p : MaybeItem) (q : p ≡ item_of fid i) where
  refused : item_fits fid i v t ≡ false → ItemWrote fid i v t out (Err (Refused Item)) out
  unfolding written_answer written_output
  refused h = (rw h, rw h)

  pub no_place : p ≡ None → ItemWrote fid i v t out (Err (Refused Item)) out
  unfolding item_fits
  no_place e = refused (rw (← q, e))

  module _ {kind scale start width : ℕ} (e : p ≡ some_item kind scale start width) where
    pub valueless : (v ≡ NoItem) ⊎ (v ≡ NoValue) → ItemWrote fid i v t out (Err (Refused Item)) out
    unfolding item_fits
    valueless (inl g) = refused (rw (← q, e, g))
    valueless (inr g) = refused (rw (← q, e, g))

    module _ {f : Bool} (k : f ≡ of_kind kind v) where
      pub other-kind : f ≡ false → ItemWrote fid i v t out (Err (Refused Item)) out
      unfolding item_fits
      other-kind h = refused (rw (← q, e) (other_fits v t fid kind scale start width (sym k ∙ h)))

      module _ (y : f ≡ true) {a : Written} {new : List ℕ} where
        -- By the value that is given.
        taken : (w : ItemValue) (b : Bool) → taken_as v t ≡ some w → fits (row fid kind width scale) w ≡ b
            → Wrote b (value_bytes (row fid kind width scale) w) out a new → ItemWrote fid i v t out a new
        unfolding item_fits item_written
        taken w b g h r = rw (← q, e, g, h) r

        pub char-taken : {b : ℕ} → v ≡ Char b → b < 256 → Wrote (char_fits kind b) (b ∷ []) out a new
            → ItemWrote fid i v t out a new
        unfolding fits value_bytes
        char-taken {b} g h r = taken (char b) (char_fits kind b) (rw g) (rw (lt-ltb b 256 h)) r

        pub word-taken : {x : ℕ} → v ≡ Word x → x < 65536 → Wrote true (bytes16 x) out a new
            → ItemWrote fid i v t out a new
        unfolding fits value_bytes
        word-taken {x} g h r =
            let z : eqb kind word_kind ≡ true = rw g at (sym k ∙ y) in
            taken (word x) true (rw g) (rw (z, lt-ltb x 65536 h)) r

        pub int-taken : {x : ℕ} → v ≡ Int x → x < 4294967296 → Wrote true (bytes32 x) out a new
            → ItemWrote fid i v t out a new
        unfolding fits value_bytes
        int-taken {x} g h r =
            let z : eqb kind int_kind ≡ true = rw g at (sym k ∙ y) in
            taken (int x) true (rw g) (rw (z, lt-ltb x 4294967296 h)) r

        pub text-taken : {at len : ℕ} → v ≡ Text at len → Wrote (text_fits width t) (text_bytes width t) out a new
            → ItemWrote fid i v t out a new
        unfolding fits value_bytes
        text-taken g r =
            let z : eqb kind string_kind ≡ true = rw g at (sym k ∙ y) in
            taken (text t) (text_fits width t) (rw g) (rw z) r

        pub number-taken : {n : Bool} {x : ℕ} → v ≡ Number n x
            → Wrote (number_fits width n x) (number_bytes width n x) out a new
            → ItemWrote fid i v t out a new
        unfolding fits value_bytes
        number-taken {n} {x} g r =
            let z : eqb kind number_kind ≡ true = rw g at (sym k ∙ y) in
            taken (number n x) (number_fits width n x) (rw g) (rw z) r

        pub float-taken : {n : Bool} {x : ℕ} → v ≡ Float n x
            → Wrote (float_fits scale width n x) (float_bytes scale width n x) out a new → ItemWrote fid i v t out a new
        unfolding fits value_bytes
        float-taken {n} {x} g r =
            let z : eqb kind float_kind ≡ true = rw g at (sym k ∙ y) in
            taken (float n x) (float_fits scale width n x) (rw g) (rw z) r

        pub date-taken : {d : DateValue} → v ≡ Date d → Wrote (date_fits d) (date_bytes d) out a new
            → ItemWrote fid i v t out a new
        unfolding fits value_bytes
        date-taken {d} g r =
            let z : eqb kind date_kind ≡ true = rw g at (sym k ∙ y) in
            taken (date d) (date_fits d) (rw g) (rw z) r
