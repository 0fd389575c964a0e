-- A known field as the list of its items' values: from the laws of each row, by one walk over rows. Assumes nothing.
use Prim.Native.Nat.{ℕ, zero, suc, ◌+◌, ◌<◌, ◌≤◌}
use mathlib.Core.Path.{◌≡◌, refl, sym, ap, subst, ◌∙◌}
use mathlib.Core.Logic.{◌↔◌}
use mathlib.Core.Option.{Option, none, some}
use mathlib.Core.List.{List, [], ◌∷◌, ◌++◌}
use mathlib.Core.Bool.{Bool, true, false, cond, not, ◌&&◌, ◌||◌, false≢true}
use native.Mathlib.Omega.{arith}
use borrow.Author.Tests.{le-leb, leb-true, eq-eqb, eqb-true}
use lib.ListN.{length, get_or, take, drop, length-append, length-take, length-drop, take-append-drop}
use lib.Seq.{take_at, drop_at, drop-drop}
use lib.Dec.{leb, eqb}
use Rattle.ftd.specs.Bytes.{part, Bytes}
use Rattle.ftd.specs.Runs.{Run}
use Rattle.ftd.specs.Fields.{fields_of, field_with}
use Rattle.ftd.specs.Table.{Row, row, total, rows_of, width_of, known}
use Rattle.ftd.specs.Values.{is_value}
use Rattle.ftd.specs.Items.{wrong_width, item_good, items_good, is_refused, walk_of, wrong_item}
use Rattle.ftd.specs.Places.{item_in, item_of}
use Rattle.ftd.specs.Item.{ItemValue, char, value_of, value_bytes, fits, given_at, item_value_of, RowLaws}
use Rattle.ftd.specs.Item.Fields.{ahead, values_in, values_of, bytes_in, field_bytes_of, fits_in, field_fits, Accepted}
use Rattle.ftd.specs.Item.Fields.{KnownLaws}
use Rattle.ftd.specs.declared.refusal.Refusal.TheVariants.{Item}
use Rattle.ftd.proofs.table.Rule.{row_count}
use Rattle.ftd.proofs.item.Laws.{two, value-wide, field_row, item-laws}
use Rattle.ftd.proofs.fields.Laws.{left-bytes, right-bytes, one_field, fid-back, bytes_back}
use Rattle.std.specs.Prelude.{Ok, Err}
use Rattle.ftd.specs.Types.{some_item}
use Rattle.ftd.proofs.Options.{same-item}

-- ─── Over any rows that have the laws ───

abbrev EachRow : List Row → Type 0
EachRow rs = (i : ℕ) → i < length rs → RowLaws (get_or rs i (row 0 0 0 0))

tail-rows : (r : Row) (rs : List Row) → EachRow (r ∷ rs) → EachRow rs
tail-rows r rs e i h = e (suc i) (omega arith)

first-row : (r : Row) (rs : List Row) → EachRow (r ∷ rs) → RowLaws r
first-row r rs e = e 0 (omega arith)

-- What a list of values comes from.
before-some : (a : Option ItemValue) (b : Option (List ItemValue)) (vs : List ItemValue) → ahead a b ≡ some vs
    → (v : ItemValue) × (ws : List ItemValue) × (a ≡ some v) × (b ≡ some ws) × (vs ≡ v ∷ ws)
before-some none b vs e = let z : ◌≡◌ {A = ℕ} 0 1 = cc in absurd (omega arith)
before-some (some v) none vs e = let z : ◌≡◌ {A = ℕ} 0 1 = cc in absurd (omega arith)
before-some (some v) (some ws) vs e = (v, ws, refl, refl, cc)

front_bytes : (n : ℕ) (l : List ℕ) → Bytes l → Bytes (take n l)
front_bytes n l b = left-bytes (take n l) (drop n l) (subst Bytes (sym (take-append-drop n l)) b)

rest-bytes : (n : ℕ) (l : List ℕ) → Bytes l → Bytes (drop n l)
rest-bytes n l b = right-bytes (take n l) (drop n l) (subst Bytes (sym (take-append-drop n l)) b)

-- Where the item at the front has a value, it is there whole.
front-whole : (r : Row) (l : List ℕ) (v : ItemValue) → value_of r (take r.width l) ≡ some v → r.width ≤ length l
front-whole r l v e = omega (arith, rw length-take at (value-wide r (take r.width l) v e))

-- Exact width and good items give values.
good-values : (rs : List Row) → EachRow rs → (l : List ℕ) → Bytes l → length l ≡ total rs → items_good rs l ≡ true
    → (vs : List ItemValue) × (values_in rs l ≡ some vs)
good-values [] laws [] b n g = ([], refl)
good-values [] laws (x ∷ l) b n g = absurd (omega arith)
good-values (r ∷ rs) laws l b n g =
    let w : ℕ = r.width in
    let t = two (item_good r l) (items_good rs (drop w l)) g in
    let u = two (leb w (length l)) (is_value r.kind r.scale (take w l)) t.0 in
    let m : length (take w l) ≡ w = rw length-take (omega (arith, leb-true w (length l) u.0)) in
    let k : length (drop w l) ≡ total rs = rw length-drop (omega arith) in
    let (v, e) = ((first-row r rs laws).accepted (take w l) (front_bytes w l b) m).0 u.1 in
    let (vs, f) = good-values rs (tail-rows r rs laws) (drop w l) (rest-bytes w l b) k t.1 in
    (v ∷ vs, rw (e, f))

-- And the other way.
values-good : (rs : List Row) → EachRow rs → (l : List ℕ) → Bytes l → (vs : List ItemValue) → values_in rs l ≡ some vs
    → (length l ≡ total rs) × (items_good rs l ≡ true)
values-good [] laws [] b vs e = (refl, refl)
values-good [] laws (x ∷ l) b vs e = let z : ◌≡◌ {A = ℕ} 0 1 = cc in absurd (omega arith)
values-good (r ∷ rs) laws l b vs e =
    let w : ℕ = r.width in
    let (v, ws, p, q, s) = before-some (value_of r (take w l)) (values_in rs (drop w l)) vs e in
    let h : w ≤ length l = front-whole r l v p in
    let (n, g) = values-good rs (tail-rows r rs laws) (drop w l) (rest-bytes w l b) ws q in
    let c = ((first-row r rs laws).accepted (take w l) (front_bytes w l b) (value-wide r (take w l) v p)).1 (v, p) in
    (omega (arith, rw length-drop at n), rw (le-leb w (length l) h, c) g)

values-again : (rs : List Row) → EachRow rs → (l : List ℕ) → Bytes l → (vs : List ItemValue) → values_in rs l ≡ some vs
    → (fits_in rs vs ≡ true) × (bytes_in rs vs ≡ l)
values-again [] laws [] b vs e = let q : vs ≡ [] = cc in (rw q, refl)
values-again [] laws (x ∷ l) b vs e = let z : ◌≡◌ {A = ℕ} 0 1 = cc in absurd (omega arith)
values-again (r ∷ rs) laws l b vs e =
    let w : ℕ = r.width in
    let (v, ws, p, q, s) = before-some (value_of r (take w l)) (values_in rs (drop w l)) vs e in
    let (f, g) = (first-row r rs laws).again (take w l) (front_bytes w l b) v p in
    let (h, k) = values-again rs (tail-rows r rs laws) (drop w l) (rest-bytes w l b) ws q in
    (rw (s, f) h, rw (s, g, k) (take-append-drop w l))

values-back : (rs : List Row) → EachRow rs → (vs : List ItemValue) → fits_in rs vs ≡ true
    → (length (bytes_in rs vs) ≡ total rs)
    × (items_good rs (bytes_in rs vs) ≡ true)
    × (values_in rs (bytes_in rs vs) ≡ some vs)
values-back [] laws [] e = (refl, refl, refl)
values-back [] laws (v ∷ vs) e = absurd (false≢true e)
values-back (r ∷ rs) laws [] e = absurd (false≢true e)
values-back (r ∷ rs) laws (v ∷ vs) e =
    let t = two (fits r v) (fits_in rs vs) e in
    let (n, c, q) = (first-row r rs laws).back v t.0 in
    let (m, g, k) = values-back rs (tail-rows r rs laws) vs t.1 in
    let x : List ℕ = value_bytes r v in
    let y : List ℕ = bytes_in rs vs in
    let long : length (x ++ y) ≡ r.width + total rs = rw length-append (omega arith) in
    let a = take_at x y r.width n in
    let b = drop_at x y r.width n in
    (long, rw (a, b, le-leb r.width (length (x ++ y)) (omega arith), c) g, rw (a, b, q, k))

-- Value i of the list, where the item stands.
values-item : (rs : List Row) (at : ℕ) (l : List ℕ) → at ≤ length l
    → (vs : List ItemValue) → values_in rs (drop at l) ≡ some vs
    → (i fid kind scale start width : ℕ) → item_in at rs i ≡ some_item kind scale start width
    → (i < length vs)
    × (start + width ≤ length l)
    × (value_of (row fid kind width scale) (part l start width) ≡ some (get_or vs i (char 0)))
unfolding value_of
values-item [] at l h vs e i fid kind scale start width p = let z : ◌≡◌ {A = ℕ} 0 1 = cc (p) in absurd (omega arith)
values-item (r ∷ rs) at l h vs e zero fid kind scale start width p =
    let m : List ℕ = drop at l in
    let (v, ws, a, b, s) = before-some (value_of r (take r.width m)) (values_in rs (drop r.width m)) vs e in
    let o = same-item _ _ _ _ _ _ _ _ p in
    let k : r.kind ≡ kind = o.0 in
    let c : r.scale ≡ scale = o.1 in
    let t : at ≡ start = o.2 in
    let w : r.width ≡ width = o.3 in
    let n = rw length-drop at (front-whole r (drop at l) v a) in
    (rw s (omega arith), omega arith, rw (s, ← k, ← c, ← t, ← w) a)
values-item (r ∷ rs) at l h vs e (suc i) fid kind scale start width p =
    let m : List ℕ = drop at l in
    let (v, ws, a, b, s) = before-some (value_of r (take r.width m)) (values_in rs (drop r.width m)) vs e in
    let n = rw length-drop at (front-whole r (drop at l) v a) in
    let q = ap (values_in rs) (sym (drop-drop r.width at l)) ∙ b in
    let (x, y, z) = values-item rs (at + r.width) l (omega arith) ws q i fid kind scale start width p in
    (rw s (omega arith), y, rw s z)

-- ─── The rows of a field ───

field-rows : (fid : ℕ) → EachRow (rows_of fid)
field-rows fid i h =
    let (k, low, q) = field_row fid i h in
    rw q (item-laws.each k (rw row_count low))

-- ─── 8 and 9 of one field ───

module _ (fid : ℕ) (l : List ℕ) where
  only : fields_of (field_with fid l) ≡ field_with fid l ∷ []
  only = ap (λ (r : Run). r.entries) (one_field fid l)

  width_is : wrong_width (field_with fid l) ≡ ((known fid && not (eqb (length l) (width_of fid))) || false)
  unfolding wrong_width
  width_is = rw (only, fid-back fid l, bytes_back fid l)

  item-is : wrong_item (field_with fid l) ≡ is_refused (cond (items_good (rows_of fid) l) (Ok tt) (Err Item))
  unfolding wrong_item walk_of
  item-is = rw (only, fid-back fid l, bytes_back fid l)

  accepted-good : known fid ≡ true → Accepted fid l
      → (length l ≡ total (rows_of fid)) × (items_good (rows_of fid) l ≡ true)
  accepted-good k (a, b) = (
    wide (eqb (length l) (width_of fid)) refl (rw k at (sym width_is ∙ a)),
    good (items_good (rows_of fid) l) (sym item-is ∙ b),
  )
    where
      wide : (e : Bool) → eqb (length l) (width_of fid) ≡ e → (not e || false) ≡ false → length l ≡ width_of fid
      wide true q h = eqb-true (length l) (width_of fid) q
      wide false q h = absurd (false≢true (sym h))

      good : (g : Bool) → is_refused (cond g (Ok tt) (Err Item)) ≡ false → g ≡ true
      good true h = refl
      good false h = absurd (false≢true (sym h))

  good-accepted : length l ≡ total (rows_of fid) → items_good (rows_of fid) l ≡ true → Accepted fid l
  good-accepted n g = (width_is ∙ rw (eq-eqb (length l) (width_of fid) n) (go (known fid)), item-is ∙ rw g)
    where
      go : (k : Bool) → ((k && false) || false) ≡ false
      go true = refl
      go false = refl

-- ─── All of it ───

accepted : (fid : ℕ) → known fid ≡ true → (l : List ℕ) → Bytes l
    → Accepted fid l ↔ ((vs : List ItemValue) × (values_of fid l ≡ some vs))
unfolding values_of
accepted fid k l b = (
  λ a. let (n, g) = accepted-good fid l k a in good-values (rows_of fid) (field-rows fid) l b n g,
  λ s. let (n, g) = values-good (rows_of fid) (field-rows fid) l b s.0 s.1 in good-accepted fid l n g,
)

again : (fid : ℕ) (l : List ℕ) → Bytes l → (vs : List ItemValue) → values_of fid l ≡ some vs
    → (field_fits fid vs ≡ true) × (field_bytes_of fid vs ≡ l)
unfolding values_of field_fits field_bytes_of
again fid l b vs e = values-again (rows_of fid) (field-rows fid) l b vs e

back : (fid : ℕ) (vs : List ItemValue) → field_fits fid vs ≡ true
    → (length (field_bytes_of fid vs) ≡ width_of fid)
    × Accepted fid (field_bytes_of fid vs)
    × (values_of fid (field_bytes_of fid vs) ≡ some vs)
unfolding values_of field_fits field_bytes_of
back fid vs e =
    let (n, g, q) = values-back (rows_of fid) (field-rows fid) vs e in
    (n, good-accepted fid (bytes_in (rows_of fid) vs) n g, q)

item : (fid i kind scale start width : ℕ) → item_of fid i ≡ some_item kind scale start width
    → (l : List ℕ) (vs : List ItemValue) → values_of fid l ≡ some vs
    → (i < length vs) × (item_value_of fid i l ≡ given_at start (some (get_or vs i (char 0))))
unfolding values_of item_of item_value_of
item fid i kind scale start width p l vs e =
    let (n, h, q) = values-item (rows_of fid) 0 l (omega arith) vs e i fid kind scale start width p in
    (n, rw (p, le-leb (start + width) (length l) h, q))

pub known-laws : KnownLaws
known-laws = record { accepted = accepted; again = again; back = back; item = item }
