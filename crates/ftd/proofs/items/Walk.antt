-- One turn of each loop over the fields and their items, over plain variables. Assumes nothing.
use Prim.Native.Nat.{ℕ, ◌+◌, ◌-◌, ◌<◌, ◌≤◌}
use mathlib.Core.Path.{◌≡◌, refl}
use mathlib.Core.List.{List, [], ◌∷◌}
use mathlib.Core.Bool.{Bool, true, false, cond, not, ◌&&◌}
use native.Mathlib.Omega.{arith}
use borrow.Author.Tests.{lt-ltb, le-leb, lt-leb}
use lib.ListN.{length, take, drop, length-take, length-drop}
use lib.Seq.{drop-drop, take-take}
use lib.Dec.{leb, eqb}
use Rattle.ftd.specs.Bytes.{be32_of}
use Rattle.ftd.specs.Runs.{front, run_of}
use Rattle.ftd.specs.Fields.{field, fields_of}
use Rattle.ftd.specs.Fields.Helpers.{places, fields_from}
use Rattle.std.specs.List.{list_any}
use Rattle.ftd.specs.declared.fields.FieldPlace.{FieldPlace}
use Rattle.ftd.specs.Table.{Row, table, rows_of}
use Rattle.ftd.specs.Table.Rule.{rows_place, row_at}
use Rattle.ftd.specs.Values.{is_value}
use Rattle.ftd.specs.Items.{other_width, any_other, wrong_width, item_good, items_good, walk_fields, walk_of, check_of}
use Rattle.ftd.specs.declared.refusal.Refusal.TheVariants.{FieldLength, Item}
use Rattle.ftd.specs.Types.{Checked}
use Rattle.ftd.proofs.Lists.{drop-part}
use Rattle.ftd.proofs.runs.Laws.{run-over, run-next}
use Rattle.ftd.proofs.fields.Turns.{some-field, be32-entry, field-head}
use Rattle.ftd.proofs.table.Rule.{table-rule, rows_none, rows-from, rows-length, rows_next, rows-over}
use Rattle.std.specs.Prelude.{Ok, Err}

-- ─── Refusal 8 ───

module _ (fid len : ℕ) where
  pub width-unknown : 46 < fid → false ≡ other_width fid len
  width-unknown h = rw (rows_none fid h)

  module _ (i count : ℕ) (e : i ≡ fid) (q : count ≡ (rows_place i).count) where
    pub width-empty : count ≡ 0 → not (eqb count 0) ≡ other_width fid len
    width-empty z = rw (rows-length fid, ← e, ← q, z)

    pub width-known : (count ≡ 0 → ⊥) → (j wide : ℕ) → j ≡ fid → wide ≡ (rows_place j).wide
        → not (eqb len wide) ≡ other_width fid len
    width-known z j wide f w =
        rw (rows-length fid, (table-rule.field fid).sum, ← f, ← w, f, ← e, ← q, lt-ltb 0 count (omega arith))

abbrev pub wide_otherwise : FieldPlace → Bool
wide_otherwise p = other_width p.fid p.len

places-widths : (fs : List (List ℕ)) (at : ℕ) → list_any wide_otherwise (places at fs) ≡ any_other fs
places-widths [] at = refl
places-widths (f ∷ fs) at = rw (length-drop, places-widths fs (at + length f))

pub walk-widths : (content : List ℕ) → list_any wide_otherwise (fields_from content 0) ≡ wrong_width content
unfolding fields_from wrong_width
walk-widths content = places-widths (fields_of content) 0

-- ─── Refusal 9 ───

-- A part of a part from a place on.
take_part : (p n to : ℕ) (l : List ℕ) → p + n ≤ to → take n (drop p (take to l)) ≡ take n (drop p l)
take_part p n to l h = rw drop-part (take-take n (to - p) (drop p l) (omega arith))

module _ (r : Row) (l : List ℕ) (pos end : ℕ) (order : pos ≤ end) (fits : end ≤ length l) (width : ℕ)
    (w : width ≡ r.width) where
  left : length (drop pos (take end l)) ≡ end - pos
  left = simp (length-drop, length-take) (omega arith)

  pub item-short : end - pos < width → leb width (end - pos) ≡ item_good r (drop pos (take end l))
  item-short h = rw (left, ← w, lt-leb width (end - pos) h)

  pub item-there : width ≤ end - pos → (kind scale : ℕ) → kind ≡ r.kind → scale ≡ r.scale
      → (v : Bool) → v ≡ is_value kind scale (take (pos + width - pos) (drop pos l))
      → v ≡ item_good r (drop pos (take end l))
  item-there h kind scale k s v q =
      let d : pos + width - pos ≡ width = omega arith in
      rw (left, ← w, le-leb width (end - pos) h, take_part pos width end l (omega arith), ← k, ← s) (rw d at q)

-- The items from a row on, up to the last one of the field, and what comes behind the field.
module _ (l : List ℕ) (i last pos end : ℕ) (more t : Checked)
    (inv : cond (items_good (take (last - i) (drop i table)) (drop pos (take end l))) more (Err Item) ≡ t) where
  pub items-end : last ≤ i → more ≡ t
  items-end h = rw (rows-over i last h) at inv

  module _ (h : i < last) (inside : last ≤ 379) (g : Bool) (q : g ≡ item_good (row_at i) (drop pos (take end l))) where
    next : cond (g && items_good (take (last - (i + 1)) (drop (i + 1) table)) (drop (pos + (row_at i).width) (take end l)))
        more (Err Item) ≡ t
    next = rw (q, ← (drop-drop (row_at i).width pos (take end l))) (rw (rows_next i last h inside) at inv)

    pub items-wrong : g ≡ false → Err Item ≡ t
    items-wrong w = rw w at next

    pub items-turn : g ≡ true → (width : ℕ) → width ≡ (row_at i).width
        → cond (items_good (take (last - (i + 1)) (drop (i + 1) table)) (drop (pos + width) (take end l))) more
        (Err Item) ≡ t
    items-turn w width e = rw e (rw w at next)

module _ (l : List ℕ) (at n : ℕ) (e : n ≡ front field (drop at l)) (t : Checked)
    (inv : walk_fields (run_of field (drop at l)).entries ≡ t) where
  pub walk-over : n ≡ 0 → (Ok tt) ≡ t
  walk-over z = rw (run-over field some-field l at n e z) at inv

  module _ (z : n ≡ 0 → ⊥) (fid : ℕ) (f : fid ≡ be32_of l at) where
    here : cond (items_good (rows_of fid) (drop (at + 6) (take (at + n) l)))
        (walk_fields (run_of field (drop (at + n) l)).entries) (Err Item) ≡ t
    here =
        let d : at + n - at ≡ n = omega arith in
        rw (f, ← (drop-drop 6 at (take (at + n) l)), drop-part at (at + n) l, d)
        (rw (run-next field some-field l at n e z, be32-entry l at n (field-head l at n e z)) at inv)

    pub walk-unknown : 46 < fid → walk_fields (run_of field (drop (at + n) l)).entries ≡ t
    walk-unknown h = rw (rows_none fid h) at here

    pub walk-items : (i start : ℕ) → i ≡ fid → start ≡ (rows_place i).start → (j last : ℕ) → j ≡ fid
        → last ≡ (rows_place j).start + (rows_place j).count
        → cond (items_good (take (last - start) (drop start table)) (drop (at + 6) (take (at + n) l)))
        (walk_fields (run_of field (drop (at + n) l)).entries) (Err Item) ≡ t
    walk-items i start a p j last b q = rw (rows-from fid i start a p j last b q) at here

-- ─── Refusal 8, then 9 ───

module _ (l : List ℕ) (w : Bool) (q : w ≡ wrong_width l) where
  pub check-width : w ≡ true → Err FieldLength ≡ check_of l
  unfolding check_of
  check-width e = rw (← q, e)

  pub check-walk : w ≡ false → (v : Checked) → v ≡ walk_of l → v ≡ check_of l
  unfolding check_of
  check-walk e v p = rw (← q, e) p
