-- The rule of the table, computed, and carried to each row and field. Assumes nothing.
use Prim.Native.Nat.{ℕ, zero, suc, ◌+◌, ◌-◌, ◌<◌, ◌≤◌}
use mathlib.Core.Path.{◌≡◌, refl, ap, ◌∙◌}
use mathlib.Core.List.{List, [], ◌∷◌, map}
use mathlib.Core.Bool.{Bool, true, false, cond, ◌&&◌}
use native.Mathlib.Nat.{zero-add, add-zero}
use native.Mathlib.Numerals.{add-one}
use native.Mathlib.Omega.{arith}
use borrow.Author.Tests.{eqb-true, eqb-false, ltb-true, ltb-false}
use lib.ListN.{length, get_or, take, drop, get_or-eq_default, get_or-map, length-take, length-drop}
use lib.Seq.{get_or-take, get_or-drop, drop-cons}
use lib.Dec.{leb, ltb, eqb, T, eqb→eq, leb→le, ltb→lt}
use Rattle.ftd.specs.Table.{Row, row, table, keep, total, rows_of}
use Rattle.ftd.specs.Table.Rule.{Place, place, places, rows_place, row_at, right_form, RowRule, FieldRule, TableRule}
use Rattle.ftd.specs.Table.Helpers.{row_holds, rows_hold, same_row, same_rows}
use Rattle.ftd.specs.Table.Helpers.{field_holds, all_below, ruled}

test : T ruled
unfolding table rows_of places
test = tt

-- ─── From a test to its parts ───

abbrev none : Row
none = row 0 0 0 0

pub both_left : (a b : Bool) → T (a && b) → T a
both_left true b t = tt
both_left false b t = absurd t

pub both_right : (a b : Bool) → T (a && b) → T b
both_right true b t = t
both_right false b t = absurd t

pub is_true : (b : Bool) → T b → b ≡ true
is_true true t = refl
is_true false t = absurd t

pub below_at : (p : ℕ → Bool) (n : ℕ) → T (all_below p n) → (i : ℕ) → i < n → T (p i)
below_at p zero t i h = absurd (omega arith)
below_at p (suc n) t i h = go (eqb i n) refl (λ k. below_at p n (both_right (p n) (all_below p n) t) i k)
  where
    go : (b : Bool) → eqb i n ≡ b → (i < n → T (p i)) → T (p i)
    go true e ih = rw (eqb-true i n e) (both_left (p n) (all_below p n) t)
    go false e ih = ih (omega (arith, eqb-false i n e))

row-at : (l : List Row) (k : ℕ) → T (rows_hold k l) → (i : ℕ) → i < length l → T (row_holds (k + i) (get_or l i none))
row-at [] k t i h = absurd (omega arith)
row-at (r ∷ rs) k t zero h = rw add-zero (both_left (row_holds k r) (rows_hold (suc k) rs) t)
row-at (r ∷ rs) k t (suc i) h =
    let e : k + suc i ≡ suc k + i = omega arith in
    rw e (row-at rs (suc k) (both_right (row_holds k r) (rows_hold (suc k) rs) t) i (omega arith))

same_row-is : (r s : Row) → T (same_row r s) → r ≡ s
same_row-is r s t =
    let u = both_right (eqb r.fid s.fid) _ t in
    let v = both_right (eqb r.kind s.kind) _ u in
    let a : r.fid ≡ s.fid = eqb→eq _ _ (both_left (eqb r.fid s.fid) _ t) in
    let b : r.kind ≡ s.kind = eqb→eq _ _ (both_left (eqb r.kind s.kind) _ u) in
    let c : r.width ≡ s.width = eqb→eq _ _ (both_left (eqb r.width s.width) _ v) in
    let d : r.scale ≡ s.scale = eqb→eq _ _ (both_right (eqb r.width s.width) _ v) in
    ap (λ (x : ℕ). row x r.kind r.width r.scale) a
    ∙ ap (λ (x : ℕ). row s.fid x r.width r.scale) b
    ∙ ap (λ (x : ℕ). row s.fid s.kind x r.scale) c
    ∙ ap (λ (x : ℕ). row s.fid s.kind s.width x) d

same-rows : (l m : List Row) → T (same_rows l m) → l ≡ m
same-rows [] [] t = refl
same-rows [] (s ∷ ss) t = absurd t
same-rows (r ∷ rs) [] t = absurd t
same-rows (r ∷ rs) (s ∷ ss) t =
    let a = same_row-is r s (both_left (same_row r s) (same_rows rs ss) t) in
    let b = same-rows rs ss (both_right (same_row r s) (same_rows rs ss) t) in
    rw (a, b)

-- A row that is kept for a field is one of that field.
kept : (fid : ℕ) (l : List Row) (j : ℕ) → j < length (keep fid l) → (get_or (keep fid l) j none).fid ≡ fid
kept fid [] j h = absurd (omega arith)
kept fid (r ∷ rs) j h = go (eqb r.fid fid) refl (λ i k. kept fid rs i k) j h
  where
    go : (b : Bool) → eqb r.fid fid ≡ b → ((i : ℕ) → i < length (keep fid rs) → (get_or (keep fid rs) i none).fid ≡ fid)
        → (j : ℕ) → j < length (cond b (r ∷ keep fid rs) (keep fid rs))
        → (get_or (cond b (r ∷ keep fid rs) (keep fid rs)) j none).fid ≡ fid
    go true e ih zero h = eqb-true r.fid fid e
    go true e ih (suc j) h = ih j (omega arith)
    go false e ih j h = ih j h

-- ─── The rule ───

pub row_count : length table ≡ 379
unfolding table
row_count = refl

row-rule : (i : ℕ) → i < 379 → RowRule i (get_or table i none)
row-rule i h =
    let r : Row = get_or table i none in
    let t : T (row_holds i r) =
    rw zero-add at (row-at table 0 (both_left (rows_hold 0 table) (all_below field_holds 47) test) i (rw row_count h)) in
    let u = both_right (right_form r) _ t in
    record {
      form = is_true (right_form r) (both_left (right_form r) _ t);
      from = leb→le _ _ (both_left (leb (rows_place r.fid).start i) _ u);
      to = ltb→lt _ _ (both_right (leb (rows_place r.fid).start i) _ u);
    }

-- An FID above 46 has no place and no row.
pub place_none : (fid : ℕ) → 47 ≤ fid → rows_place fid ≡ place 0 0 0
unfolding places
place_none fid h = get_or-eq_default places (place 0 0 0) h

keep-none : (fid : ℕ) → 47 ≤ fid → (l : List Row) (k : ℕ) → T (rows_hold k l) → keep fid l ≡ []
keep-none fid h [] k t = refl
keep-none fid h (r ∷ rs) k t =
    go (eqb r.fid fid) refl (keep-none fid h rs (suc k) (both_right (row_holds k r) (rows_hold (suc k) rs) t))
  where
    go : (b : Bool) → eqb r.fid fid ≡ b → keep fid rs ≡ [] → cond b (r ∷ keep fid rs) (keep fid rs) ≡ []
    go true e ih =
        let p : Place = rows_place r.fid in
        let u : T (leb p.start k && ltb k (p.start + p.count)) =
        both_right (right_form r) _ (both_left (row_holds k r) (rows_hold (suc k) rs) t) in
        let v : k < p.start + p.count = ltb→lt _ _ (both_right (leb p.start k) _ u) in
        let w : k < 0 + 0 = rw (eqb-true r.fid fid e, place_none fid h) at v in
        absurd (omega arith)
    go false e ih = ih

module _ (fid : ℕ) where
  known-rule : fid < 47 → FieldRule fid
  unfolding rows_of
  known-rule h =
      let t : T (field_holds fid) =
      below_at field_holds 47 (both_right (rows_hold 0 table) (all_below field_holds 47) test) fid h in
      let p : Place = rows_place fid in
      let same : Bool = same_rows (rows_of fid) (take p.count (drop p.start table)) in
      let u : T (same && eqb (total (rows_of fid)) p.wide) = both_right (leb (p.start + p.count) 379) _ t in
      let n : p.start + p.count ≤ 379 = leb→le _ _ (both_left (leb (p.start + p.count) 379) _ t) in
      let s : rows_of fid ≡ take p.count (drop p.start table) = same-rows _ _ (both_left same _ u) in
      record {
        inside = n;
        rows = s;
        sum = eqb→eq _ _ (both_right same _ u);
        apart = λ i a b.
            let e : p.start + (i - p.start) ≡ i = omega arith in
            let k : i - p.start < length (keep fid table) =
            rw (s, length-take, length-drop, row_count) (omega arith) in
            let g : get_or (keep fid table) (i - p.start) none ≡ get_or table i none =
            rw (s, get_or-take p.count (drop p.start table) (i - p.start) none (omega arith), get_or-drop, e) in
            rw (← g) (kept fid table (i - p.start) k);
      }

  unknown-rule : 47 ≤ fid → FieldRule fid
  unfolding rows_of
  unknown-rule h =
      let e = keep-none fid h table 0 (both_left (rows_hold 0 table) (all_below field_holds 47) test) in
      record {
        inside = rw (place_none fid h) (omega arith);
        rows = rw (e, place_none fid h);
        sum = rw
            (e, place_none fid h);
        apart = λ i a b. absurd (omega (arith, rw (place_none fid h) at b));
      }

pub table-rule : TableRule
table-rule = record { each = row-rule; field = λ fid. go fid (ltb fid 47) refl }
  where
    go : (fid : ℕ) (b : Bool) → ltb fid 47 ≡ b → FieldRule fid
    go fid true e = known-rule fid (ltb-true fid 47 e)
    go fid false e = unknown-rule fid (ltb-false fid 47 e)

-- ─── The columns, as the code has them ───

unfoldable pub kind_column : List ℕ
kind_column = map (λ (r : Row). r.kind) table

unfoldable pub width_column : List ℕ
width_column = map (λ (r : Row). r.width) table

unfoldable pub scale_column : List ℕ
scale_column = map (λ (r : Row). r.scale) table

unfoldable pub starts : List ℕ
starts = map (λ (p : Place). p.start) places

unfoldable pub counts : List ℕ
counts = map (λ (p : Place). p.count) places

unfoldable pub wides : List ℕ
wides = map (λ (p : Place). p.wide) places

module _ (i : ℕ) where
  pub kind-col : get_or kind_column i 0 ≡ (get_or table i none).kind
  unfolding kind_column
  kind-col = get_or-map (λ (r : Row). r.kind) table i none

  pub width-col : get_or width_column i 0 ≡ (get_or table i none).width
  unfolding width_column
  width-col = get_or-map (λ (r : Row). r.width) table i none

  pub scale-col : get_or scale_column i 0 ≡ (get_or table i none).scale
  unfolding scale_column
  scale-col = get_or-map (λ (r : Row). r.scale) table i none

  pub start-col : get_or starts i 0 ≡ (rows_place i).start
  unfolding starts
  start-col = get_or-map (λ (p : Place). p.start) places i (place 0 0 0)

  pub count-col : get_or counts i 0 ≡ (rows_place i).count
  unfolding counts
  count-col = get_or-map (λ (p : Place). p.count) places i (place 0 0 0)

  pub wide-col : get_or wides i 0 ≡ (rows_place i).wide
  unfolding wides
  wide-col = get_or-map (λ (p : Place). p.wide) places i (place 0 0 0)

-- ─── The rows of a field, one at a time ───

pub rows_end : (fid start count : ℕ) → start ≡ (rows_place fid).start → count ≡ (rows_place fid).count
    → (start + count ≡ (rows_place fid).start + (rows_place fid).count) × (start + count ≤ 379)
rows_end fid start count p q = (rw (p, q), rw (p, q) (table-rule.field fid).inside)

module _ (fid : ℕ) where
  pub rows_none : 47 ≤ fid → rows_of fid ≡ []
  rows_none h = rw ((table-rule.field fid).rows, place_none fid h)

  pub rows-from : (i start : ℕ) → i ≡ fid → start ≡ (rows_place i).start → (j last : ℕ) → j ≡ fid
      → last ≡ (rows_place j).start + (rows_place j).count
      → rows_of fid ≡ take (last - start) (drop start table)
  rows-from i start a p j last b q =
      let d : (rows_place fid).start + (rows_place fid).count - (rows_place fid).start ≡ (rows_place fid).count = omega arith in
      rw (p, q, a, b, d) (table-rule.field fid).rows

  pub rows-length : length (rows_of fid) ≡ (rows_place fid).count
  rows-length =
      let h : (rows_place fid).start + (rows_place fid).count ≤ 379 = (table-rule.field fid).inside in
      rw ((table-rule.field fid).rows, length-take, length-drop, row_count) (omega arith)

pub rows_next : (i last : ℕ) → i < last → last ≤ 379
    → take (last - i) (drop i table) ≡ row_at i ∷ take (last - (i + 1)) (drop (i + 1) table)
rows_next i last h k =
    let n : i < length table = rw row_count (omega arith) in
    let s : last - i ≡ suc (last - suc i) = omega arith in
    rw (add-one i, s, drop-cons table i none n)

pub rows-over : (i last : ℕ) → last ≤ i → take (last - i) (drop i table) ≡ []
rows-over i last h =
    let z : last - i ≡ 0 = omega arith in
    rw z
