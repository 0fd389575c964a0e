-- The laws of items, by row: from the laws of each type and the form of the table's rows. Assumes nothing.
use Prim.Native.Nat.{ℕ, zero, suc, ◌+◌, ◌<◌, ◌≤◌}
use mathlib.Core.Path.{◌≡◌, refl, sym, ap, ◌∙◌}
use mathlib.Core.Logic.{◌↔◌}
use mathlib.Core.Option.{Option, none, some}
use mathlib.Core.List.{List, [], ◌∷◌}
use mathlib.Core.Bool.{Bool, true, false, cond, ◌&&◌, false≢true}
use native.Mathlib.Omega.{arith}
use borrow.Author.Tests.{lt-ltb, le-ltb, le-leb, leb-true, eq-eqb, ne_eqb, eqb-true}
use lib.ListN.{length, get_or, take, drop, length-take}
use lib.Seq.{get_or-take, get_or-drop, take-take}
use lib.Dec.{leb, ltb, eqb}
use Rattle.ftd.specs.Bytes.{part, Bytes}
use Rattle.ftd.specs.Table.{char_kind, word_kind, int_kind, string_kind, number_kind, float_kind, date_kind, first_listed}
use Rattle.ftd.specs.Table.{last_listed, Row, row, table, rows_of}
use Rattle.ftd.specs.Table.Rule.{rows_place, row_at, right_form}
use Rattle.ftd.specs.Values.{every, is_text, is_number, is_float, is_space, is_date, is_value}
use Rattle.ftd.specs.Whole.{char_fits, char_value, word_value, int_value}
use Rattle.ftd.specs.Signed.{signed_of, number_value, float_value}
use Rattle.ftd.specs.Texts.{text_value, text_fits}
use Rattle.ftd.specs.Dates.{date_value, date_fits}
use Rattle.ftd.specs.Signed.Write.{number_fits, float_fits}
use Rattle.ftd.specs.Item.{ItemValue, char, word, int, text, number, float, date, whole_as, signed_as, date_as}
use Rattle.ftd.specs.Item.{text_as, typed_value, value_of, value_bytes, fits, given_at, item_value_of, RowLaws, ItemLaws}
use Rattle.ftd.specs.Places.{item_in, item_of}
use Rattle.ftd.specs.declared.item.FieldItem.TheVariants.{NoItem, Text}
use Rattle.ftd.specs.Types.{Whole}
use Rattle.ftd.specs.Types.{Text as StringValue}
use Rattle.ftd.specs.declared.dates.Date.{Date}
use Rattle.ftd.specs.declared.dates.Date.TheVariants.{NoDate, Unused, Day}
use Rattle.ftd.proofs.table.Rule.{row_count, table-rule, rows-length}
use Rattle.ftd.proofs.signed.Stores.{fits-some, number-length, float_fits-parts, float-length}
use Rattle.ftd.proofs.texts.Laws.{text-inside, text-parts, text-length}
use Rattle.ftd.proofs.dates.Verdicts.{date-wide}
use Rattle.ftd.proofs.values.Laws.{value-laws}
use Rattle.std.specs.Prelude.{Some, None}
use Rattle.ftd.specs.Types.{some_item, MaybeSigned, some_signed}
use Rattle.ftd.proofs.Options.{same-item}

-- ─── Tests ───

pub two : (a b : Bool) → (a && b) ≡ true → (a ≡ true) × (b ≡ true)
two true b e = (refl, e)
two false b e = absurd (false≢true e)

-- A value is there.
abbrev there : Option ItemValue → Bool
there none = false
there (some v) = true

there-iff : (b : Bool) (o : Option ItemValue) → b ≡ there o → (b ≡ true) ↔ ((v : ItemValue) × (o ≡ some v))
there-iff b none q =
    (λ e. absurd (false≢true (sym q ∙ e)), λ s. let z : ◌≡◌ {A = ℕ} 0 1 = cc s.1 in absurd (omega arith))
there-iff b (some v) q = (λ e. (v, refl), λ s. q)

-- ─── What a value comes from ───

whole-some : (make : ℕ → ItemValue) (o : Whole) (v : ItemValue) → whole_as make o ≡ some v
    → (x : ℕ) × (o ≡ Some x) × (v ≡ make x)
whole-some make None v e = let z : ◌≡◌ {A = ℕ} 0 1 = cc in absurd (omega arith)
whole-some make (Some x) v e = (x, refl, cc)

signed-some : (make : Bool → ℕ → ItemValue) (o : MaybeSigned) (v : ItemValue) → signed_as make o ≡ some v
    → (n : Bool) × (x : ℕ) × (o ≡ some_signed n x) × (v ≡ make n x)
signed-some make None v e = let z : ◌≡◌ {A = ℕ} 0 1 = cc in absurd (omega arith)
signed-some make (Some found) v e = (found.negative, found.units, refl, cc)

text-some : (l : List ℕ) (o : StringValue) (v : ItemValue) → text_as l o ≡ some v
    → (x : ℕ) × (o ≡ Some x) × (v ≡ text (take x l))
text-some l None v e = let z : ◌≡◌ {A = ℕ} 0 1 = cc in absurd (omega arith)
text-some l (Some x) v e = (x, refl, cc)

whole-there : (make : ℕ → ItemValue) (b : Bool) (x : ℕ) → b ≡ there (whole_as make (cond b (Some x) None))
whole-there make true x = refl
whole-there make false x = refl

signed-there : (make : Bool → ℕ → ItemValue) (b : Bool) (l : List ℕ)
    → b ≡ there (signed_as make (cond b (signed_of l) None))
unfolding signed_of
signed-there make false l = refl
signed-there make true l = go (eqb (get_or l 0 0) 45) _ _
  where
    go : (a : Bool) (x y : ℕ) → true ≡ there (signed_as make (cond a (some_signed true x) (some_signed false y)))
    go true x y = refl
    go false x y = refl

date-there : (b c : Bool) (y m d : ℕ) → b ≡ there (date_as (cond b (cond c Unused (Day y m d)) NoDate))
date-there true true y m d = refl
date-there true false y m d = refl
date-there false c y m d = refl

date-some : (d : Date) (v : ItemValue) → date_as d ≡ some v → ((d ≡ NoDate) → ⊥) × (v ≡ date d)
date-some NoDate v e = let z : ◌≡◌ {A = ℕ} 0 1 = cc in absurd (omega arith)
date-some Unused v e = (λ q. let z : ◌≡◌ {A = ℕ} 0 1 = cc in omega arith, cc)
date-some (Day y m d) v e = (λ q. let z : ◌≡◌ {A = ℕ} 0 1 = cc in omega arith, cc)

date-as : (d : Date) → date_fits d ≡ true → date_as d ≡ some (date d)
unfolding date_fits
date-as NoDate e = absurd (false≢true e)
date-as Unused e = refl
date-as (Day y m d) e = refl

date-is : (l : List ℕ) → (date_value l ≡ NoDate → ⊥) → is_date l ≡ true
unfolding date_value
date-is l h = go (is_date l) _ h
  where
    go : (b : Bool) (d : Date) → (cond b d NoDate ≡ NoDate → ⊥) → b ≡ true
    go true d h = refl
    go false d h = absurd (h refl)

-- ─── The check and the value agree ───

abbrev Shows : ℕ → ℕ → ℕ → Type 0
Shows kind scale width = (l : List ℕ) → length l ≡ width → is_value kind scale l ≡ there (typed_value kind scale l)

module _ (s : ℕ) where
  word-shows : (w : ℕ) → Shows word_kind s w
  unfolding is_value typed_value word_value
  word-shows w l n = whole-there word (eqb (length l) 2) _

  int-shows : (w : ℕ) → Shows int_kind s w
  unfolding is_value typed_value int_value
  int-shows w l n = whole-there int (eqb (length l) 4) _

  text-shows : (w : ℕ) → Shows string_kind s w
  unfolding is_value typed_value text_value
  text-shows w l n = go (every is_text l) _
    where
      go : (b : Bool) (m : ℕ) → b ≡ there (text_as l (cond b (Some m) None))
      go true m = refl
      go false m = refl

  number-shows : (w : ℕ) → w ≤ 18 → Shows number_kind s w
  unfolding is_value typed_value number_value
  number-shows w h l n = rw (n, le-leb w 18 h) (signed-there number (is_number l) l)

  float-shows : (w : ℕ) → w ≤ 18 → Shows float_kind s w
  unfolding is_value typed_value float_value
  float-shows w h l n = rw (n, le-leb w 18 h) (signed-there float (is_float s l) _)

  date-shows : (w : ℕ) → Shows date_kind s w
  unfolding is_value typed_value date_value
  date-shows w l n = date-there (is_date l) (every is_space l) _ _ _

-- ─── Kinds of Char ───

-- One byte, checked and read as a Char of its kind.
record CharRow (kind scale width : ℕ) : Type 0 where
  pub one : width ≡ 1
  pub check : (l : List ℕ) → is_value kind scale l ≡ (eqb (length l) 1 && char_fits kind (get_or l 0 0))
  pub read : (l : List ℕ) → typed_value kind scale l ≡ whole_as char (char_value kind l)

module _ (f w s : ℕ) where
  any-row : right_form (row f char_kind w s) ≡ true → CharRow char_kind s w
  unfolding is_value typed_value char_fits
  any-row h =
      record { one = eqb-true w 1 (two (eqb w 1) (eqb s 0) h).0; check = λ l. go (eqb (length l) 1); read = λ l. refl }
    where
      go : (b : Bool) → b ≡ (b && true)
      go true = refl
      go false = refl

  listed-row : (k : ℕ) → first_listed ≤ k → right_form (row f k w s) ≡ true → CharRow k s w
  unfolding is_value typed_value char_fits
  listed-row k low h =
      let n0 = ne_eqb k char_kind (λ e. omega arith) in
      let n1 = ne_eqb k word_kind (λ e. omega arith) in
      let n2 = ne_eqb k int_kind (λ e. omega arith) in
      let n3 = ne_eqb k string_kind (λ e. omega arith) in
      let n4 = ne_eqb k number_kind (λ e. omega arith) in
      let n5 = ne_eqb k float_kind (λ e. omega arith) in
      let n6 = ne_eqb k date_kind (λ e. omega arith) in
      let g : (leb k last_listed && (eqb w 1 && eqb s 0)) ≡ true = rw (n1, n2, n3, n4, n5, n6) at h in
      let t = two (leb k last_listed) _ g in
      record {
        one = eqb-true w 1 (two (eqb w 1) (eqb s 0) t.1).0;
        check = λ l. rw (n0, n1, n2, n3, n4, n5, n6, le-ltb k first_listed low, t.0);
        read = λ l. rw (n1, n2, n3, n4, n5, n6);
      }

-- A kind by number: a Char's, or one of the others.
is-char : (f k w s : ℕ) → right_form (row f k w s) ≡ true → (b : ℕ) → char_fits k b ≡ true → CharRow k s w
unfolding char_fits
is-char f zero w s h b e = any-row f w s h
is-char f (suc zero) w s h b e = absurd (false≢true e)
is-char f (suc (suc zero)) w s h b e = absurd (false≢true e)
is-char f (suc (suc (suc zero))) w s h b e = absurd (false≢true e)
is-char f (suc (suc (suc (suc zero)))) w s h b e = absurd (false≢true e)
is-char f (suc (suc (suc (suc (suc zero))))) w s h b e = absurd (false≢true e)
is-char f (suc (suc (suc (suc (suc (suc zero)))))) w s h b e = absurd (false≢true e)
is-char f (suc (suc (suc (suc (suc (suc (suc k))))))) w s h b e = listed-row f w s _ (omega arith) h

char-shows : (k s w : ℕ) → CharRow k s w → Shows k s w
unfolding char_value
char-shows k s w c l n = c.check l ∙ rw (c.read l) (whole-there char (eqb (length l) 1 && char_fits k (get_or l 0 0)) _)

-- ─── Bytes read are those that their value writes ───

abbrev Again : Row → Type 0
Again r = (l : List ℕ) → Bytes l → length l ≡ r.width → (v : ItemValue) → typed_value r.kind r.scale l ≡ some v
    → (fits r v ≡ true) × (value_bytes r v ≡ l)

module _ (f w s : ℕ) where
  word-again : Again (row f word_kind w s)
  unfolding typed_value fits value_bytes
  word-again l b n v e =
      let t = whole-some word (word_value l) v e in
      let p = value-laws.word_again l b t.0 t.1 in
      rw t.2 (lt-ltb t.0 65536 p.0, p.1)

  int-again : Again (row f int_kind w s)
  unfolding typed_value fits value_bytes
  int-again l b n v e =
      let t = whole-some int (int_value l) v e in
      let p = value-laws.int_again l b t.0 t.1 in
      rw t.2 (lt-ltb t.0 4294967296 p.0, p.1)

  text-again : Again (row f string_kind w s)
  unfolding typed_value fits value_bytes
  text-again l b n v e =
      let t = text-some l (text_value l) v e in
      rw (t.2, ← n) (value-laws.text_again l t.0 t.1)

  number-again : Again (row f number_kind w s)
  unfolding typed_value fits value_bytes
  number-again l b n v e =
      let t = signed-some number (number_value l) v e in
      rw (t.3, ← n) (value-laws.number_again l t.0 t.1 t.2)

  float-again : Again (row f float_kind w s)
  unfolding typed_value fits value_bytes
  float-again l b n v e =
      let t = signed-some float (float_value s l) v e in
      rw (t.3, ← n) (value-laws.float_again s l t.0 t.1 t.2)

  date-again : Again (row f date_kind w s)
  unfolding typed_value fits value_bytes
  date-again l b n v e =
      let t = date-some (date_value l) v e in
      rw t.1 (value-laws.date_again l (date-is l t.0))

  char-again : (k : ℕ) → CharRow k s w → Again (row f k w s)
  unfolding fits value_bytes
  char-again k c l b n v e =
      let t = whole-some char (char_value k l) v (sym (c.read l) ∙ e) in
      let p = value-laws.char_again k l t.0 t.1 in
      let q : get_or l 0 0 ≡ t.0 = ap (λ (m : List ℕ). get_or m 0 0) (sym p.1) in
      let small : t.0 < 256 = rw q at (b 0) in
      rw t.2 (rw (lt-ltb t.0 256 small) p.0, p.1)

-- ─── A value that fits is read back ───

module _ (f k w s : ℕ) (form : right_form (row f k w s) ≡ true) where
  back : (v : ItemValue) → fits (row f k w s) v ≡ true
      → (length (value_bytes (row f k w s) v) ≡ w) × (typed_value k s (value_bytes (row f k w s) v) ≡ some v)
  unfolding typed_value fits value_bytes
  back (char b) e =
      let t = two (ltb b 256) (char_fits k b) e in
      let c = is-char f k w s form b t.1 in
      (sym c.one, c.read (b ∷ []) ∙ ap (whole_as char) (value-laws.char_back k b t.1))
  back (word x) e =
      let q : k ≡ word_kind = eqb-true k word_kind (two (eqb k word_kind) (ltb x 65536) e).0 in
      let h : (eqb w 2 && eqb s 0) ≡ true = rw q at form in
      (sym (eqb-true w 2 (two (eqb w 2) (eqb s 0) h).0), rw q (ap (whole_as word) (value-laws.word_back x)))
  back (int x) e =
      let q : k ≡ int_kind = eqb-true k int_kind (two (eqb k int_kind) (ltb x 4294967296) e).0 in
      let h : (eqb w 4 && eqb s 0) ≡ true = rw q at form in
      (sym (eqb-true w 4 (two (eqb w 4) (eqb s 0) h).0), rw q (ap (whole_as int) (value-laws.int_back x)))
  back (text l) e =
      let t = two (eqb k string_kind) (text_fits w l) e in
      let q : k ≡ string_kind = eqb-true k string_kind t.0 in
      let p = value-laws.text_back w l t.1 in
      (text-length w l (text-parts w l t.1).0, rw (q, p.0, p.1))
  back (number n x) e =
      let t = two (eqb k number_kind) (number_fits w n x) e in
      let q : k ≡ number_kind = eqb-true k number_kind t.0 in (
        number-length w n x (fits-some w n x t.1).0,
        rw q
            (ap (signed_as number) (value-laws.number_back w n x t.1)),
      )
  back (float n x) e =
      let t = two (eqb k float_kind) (float_fits s w n x) e in
      let q : k ≡ float_kind = eqb-true k float_kind t.0 in (
        float-length s w n x (float_fits-parts s w n x t.1).0,
        rw q
            (ap (signed_as float) (value-laws.float_back s w n x t.1)),
      )
  back (date d) e =
      let t = two (eqb k date_kind) (date_fits d) e in
      let q : k ≡ date_kind = eqb-true k date_kind t.0 in
      let h : (eqb w 8 && eqb s 0) ≡ true = rw q at form in (
        date-wide d true (sym t.1) refl
            ∙ sym (eqb-true w 8 (two (eqb w 8) (eqb s 0) h).0),
        rw q
            (ap date_as (value-laws.date_back d t.1) ∙ date-as d t.1),
      )

-- ─── Every row ───

-- At bytes of the row's width, its value is that of its type.
module _ (r : Row) (l : List ℕ) where
  pub wide_value : length l ≡ r.width → value_of r l ≡ typed_value r.kind r.scale l
  unfolding value_of
  wide_value n = rw (eq-eqb (length l) r.width n)

  pub value-wide : (v : ItemValue) → value_of r l ≡ some v → length l ≡ r.width
  unfolding value_of
  value-wide v e = go (eqb (length l) r.width) refl e
    where
      go : (b : Bool) → eqb (length l) r.width ≡ b → cond b (typed_value r.kind r.scale l) none ≡ some v
          → length l ≡ r.width
      go true p e = eqb-true (length l) r.width p
      go false p e = let z : ◌≡◌ {A = ℕ} 0 1 = cc in absurd (omega arith)

module _ (f k w s : ℕ) (form : right_form (row f k w s) ≡ true) (shows : Shows k s w) (again : Again (row f k w s)) where
  typed-laws : RowLaws (row f k w s)
  typed-laws =
      let r : Row = row f k w s in
      let check : (l : List ℕ) → length l ≡ w → is_value k s l ≡ there (value_of r l) =
      λ l n. rw (wide_value r l n) (shows l n) in
      record {
        accepted = λ l b n. there-iff (is_value k s l) (value_of r l) (check l n);
        again = λ l b v e. let n = value-wide r l v e in again l b n v (sym (wide_value r l n) ∙ e);
        back = λ v e.
            let t = back f k w s form v e in
            let q : value_of r (value_bytes r v) ≡ some v = wide_value r (value_bytes r v) t.0 ∙ t.1 in
            (t.0, check (value_bytes r v) t.0 ∙ ap there q, q);
      }

char-laws : (f k w s : ℕ) → right_form (row f k w s) ≡ true → CharRow k s w → RowLaws (row f k w s)
char-laws f k w s h c = typed-laws f k w s h (char-shows k s w c) (char-again f w s k c)

-- By the number of its kind.
row_laws : (f k w s : ℕ) → right_form (row f k w s) ≡ true → RowLaws (row f k w s)
row_laws f zero w s h = char-laws f char_kind w s h (any-row f w s h)
row_laws f (suc zero) w s h = typed-laws f word_kind w s h (word-shows s w) (word-again f w s)
row_laws f (suc (suc zero)) w s h = typed-laws f int_kind w s h (int-shows s w) (int-again f w s)
row_laws f (suc (suc (suc zero))) w s h = typed-laws f string_kind w s h (text-shows s w) (text-again f w s)
row_laws f (suc (suc (suc (suc zero)))) w s h =
    typed-laws f number_kind w s h
    (number-shows s w (leb-true w 18 (two (leb w 18) (eqb s 0) (two (leb 1 w) _ h).1).0)) (number-again f w s)
row_laws f (suc (suc (suc (suc (suc zero))))) w s h =
    typed-laws f float_kind w s h
    (float-shows s w (leb-true w 18 (two (leb (s + 2) w) (leb w 18) (two (leb 1 s) _ h).1).1)) (float-again f w s)
row_laws f (suc (suc (suc (suc (suc (suc zero)))))) w s h =
    typed-laws f date_kind w s h (date-shows s w) (date-again f w s)
row_laws f (suc (suc (suc (suc (suc (suc (suc k))))))) w s h = char-laws f _ w s h (listed-row f w s _ (omega arith) h)

-- ─── The items of a field ───

-- The row of an item is one of the field's.
row-found : (l : List Row) (at i kind scale start width : ℕ) → item_in at l i ≡ some_item kind scale start width
    → (i < length l) × (kind ≡ (get_or l i (row 0 0 0 0)).kind) × (scale ≡ (get_or l i (row 0 0 0 0)).scale)
    × (width ≡ (get_or l i (row 0 0 0 0)).width)
row-found [] at i kind scale start width e = let z : ◌≡◌ {A = ℕ} 0 1 = cc in absurd (omega arith)
row-found (r ∷ rs) at zero kind scale start width e =
    let o = same-item _ _ _ _ _ _ _ _ e in
    let k : kind ≡ r.kind = sym o.0 in
    let c : scale ≡ r.scale = sym o.1 in
    let w : width ≡ r.width = sym o.3 in
    (omega arith, k, c, w)
row-found (r ∷ rs) at (suc i) kind scale start width e =
    let t = row-found rs (at + r.width) i kind scale start width e in
    (omega arith, t.1, t.2, t.3)

-- Row i of a field stands in the table.
pub field_row : (fid i : ℕ) → i < length (rows_of fid)
    → (k : ℕ) × (k < 379) × (get_or (rows_of fid) i (row 0 0 0 0) ≡ row_at k)
field_row fid i h =
    let p = rows_place fid in
    let low : i < p.count = rw (rows-length fid) at h in
    let inside : p.start + p.count ≤ 379 = (table-rule.field fid).inside in (
      p.start + i,
      omega arith,
      rw ((table-rule.field fid).rows, get_or-take p.count (drop p.start table) i (row 0 0 0 0) low, get_or-drop),
    )

module _ (fid i kind scale start width : ℕ) (e : item_of fid i ≡ some_item kind scale start width) where
  found-form : right_form (row fid kind width scale) ≡ true
  unfolding item_of
  found-form =
      let t = row-found (rows_of fid) 0 i kind scale start width e in
      let (k, h, q) = field_row fid i t.0 in
      let form : right_form (row_at k) ≡ true = (table-rule.each k h).form in
      rw (t.1, t.2, t.3, q) form

  found-laws : RowLaws (row fid kind width scale)
  found-laws = row_laws fid kind width scale found-form

-- A text that is given stands where its item starts.
given-text : (start : ℕ) (o : Option ItemValue) (at len : ℕ) → given_at start o ≡ Text at len
    → (t : List ℕ) × (o ≡ some (text t)) × (start ≡ at) × (length t ≡ len)
given-text start none at len e = let z : ◌≡◌ {A = ℕ} 0 1 = cc in absurd (omega arith)
given-text start (some (char b)) at len e = let z : ◌≡◌ {A = ℕ} 0 1 = cc in absurd (omega arith)
given-text start (some (word x)) at len e = let z : ◌≡◌ {A = ℕ} 0 1 = cc in absurd (omega arith)
given-text start (some (int x)) at len e = let z : ◌≡◌ {A = ℕ} 0 1 = cc in absurd (omega arith)
given-text start (some (text t)) at len e = (t, refl, cc, cc)
given-text start (some (number n x)) at len e = let z : ◌≡◌ {A = ℕ} 0 1 = cc in absurd (omega arith)
given-text start (some (float n x)) at len e = let z : ◌≡◌ {A = ℕ} 0 1 = cc in absurd (omega arith)
given-text start (some (date d)) at len e = let z : ◌≡◌ {A = ℕ} 0 1 = cc in absurd (omega arith)

-- A text comes from a String alone, and is its value.
typed-text : (kind scale : ℕ) (l t : List ℕ) → typed_value kind scale l ≡ some (text t)
    → (n : ℕ) × (text_value l ≡ Some n) × (take n l ≡ t)
unfolding typed_value
typed-text kind scale l t e =
    go (eqb kind word_kind) (eqb kind int_kind) (eqb kind string_kind) (eqb kind number_kind) (eqb kind float_kind)
    (eqb kind date_kind) e
  where
    whole : (make : ℕ → ItemValue) → ((x : ℕ) → make x ≡ text t → ⊥) → (o : Whole) → whole_as make o ≡ some (text t) → ⊥
    whole make n o e = let s = whole-some make o (text t) e in n s.0 (sym s.2)

    signed : (make : Bool → ℕ → ItemValue) → ((b : Bool) (x : ℕ) → make b x ≡ text t → ⊥) → (o : MaybeSigned)
        → signed_as make o ≡ some (text t) → ⊥
    signed make n o e = let s = signed-some make o (text t) e in n s.0 s.1 (sym s.3)

    go : (a b c d f g : Bool)
        → cond a (whole_as word (word_value l)) (cond b (whole_as int (int_value l)) (cond c (text_as l (text_value l))
        (cond d (signed_as number (number_value l))
        (cond f (signed_as float (float_value scale l))
        (cond g (date_as (date_value l)) (whole_as char (char_value kind l)))))))
        ≡ some (text t) → (n : ℕ) × (text_value l ≡ Some n) × (take n l ≡ t)
    go true b c d f g e = absurd (whole word (λ y q. let z : ◌≡◌ {A = ℕ} 0 1 = cc in omega arith) (word_value l) e)
    go false true c d f g e = absurd (whole int (λ y q. let z : ◌≡◌ {A = ℕ} 0 1 = cc in omega arith) (int_value l) e)
    go false false true d f g e =
        let s = text-some l (text_value l) (text t) e in
        (s.0, s.1, cc s.2)
    go false false false true f g e =
        absurd (signed number (λ n y q. let z : ◌≡◌ {A = ℕ} 0 1 = cc in omega arith) (number_value l) e)
    go false false false false true g e =
        absurd (signed float (λ n y q. let z : ◌≡◌ {A = ℕ} 0 1 = cc in omega arith) (float_value scale l) e)
    go false false false false false true e =
        let s = date-some (date_value l) (text t) e in
        let z : ◌≡◌ {A = ℕ} 0 1 = cc s.1 in
        absurd (omega arith)
    go false false false false false false e =
        absurd (whole char (λ y q. let z : ◌≡◌ {A = ℕ} 0 1 = cc in omega arith) (char_value kind l) e)

-- It stands at the front of its item.
text-front : (r : Row) (l t : List ℕ) → value_of r l ≡ some (text t) → take (length t) l ≡ t
text-front r l t e =
    let n : length l ≡ r.width = value-wide r l (text t) e in
    let (x, q, p) = typed-text r.kind r.scale l t (sym (wide_value r l n) ∙ e) in
    let m : length t ≡ x = ap length (sym p) ∙ text-inside l x q in
    rw m p

front-part : (bytes : List ℕ) (start width at len : ℕ) (t : List ℕ) → start ≡ at → length t ≡ len
    → take (length t) (part bytes start width) ≡ t
    → t ≡ part bytes at len
front-part bytes start width at len t s n f =
    let m : length (part bytes start width) ≤ width = rw length-take (omega arith) in
    let k : length t ≤ width = omega (arith, rw length-take at (ap length f)) in
    rw (← s, ← n, ← (take-take (length t) width (drop start bytes) k)) (sym f)

text-place : (fid i kind scale start width : ℕ) → item_of fid i ≡ some_item kind scale start width
    → (bytes : List ℕ) (at len : ℕ) → item_value_of fid i bytes ≡ Text at len
    → value_of (row fid kind width scale) (part bytes start width) ≡ some (text (part bytes at len))
unfolding item_value_of
text-place fid i kind scale start width e bytes at len h = go (leb (start + width) (length bytes)) (rw e at h)
  where
    go : (b : Bool) → cond b (given_at start (value_of (row fid kind width scale) (part bytes start width)))
        NoItem ≡ Text at len
        → value_of (row fid kind width scale) (part bytes start width) ≡ some (text (part bytes at len))
    go true h =
        let r : Row = row fid kind width scale in
        let l : List ℕ = part bytes start width in
        let (t, o, s, n) = given-text start (value_of r l) at len h in
        o ∙ ap (λ (x : List ℕ). some (text x)) (front-part bytes start width at len t s n (text-front r l t o))
    go false h = let z : ◌≡◌ {A = ℕ} 0 1 = cc in absurd (omega arith)

pub item-laws : ItemLaws
item-laws =
    record {
      each =
          λ i h. row_laws (row_at i).fid (row_at i).kind (row_at i).width (row_at i).scale
          (table-rule.each i (rw row_count at h)).form;
      placed = found-laws;
      texts = text-place;
    }
