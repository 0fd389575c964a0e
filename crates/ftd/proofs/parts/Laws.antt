-- Content that lies in parts: shape, widths, items and counts of whole fields with anything behind them. Assumes
-- nothing.
use Prim.Native.Nat.{ℕ, ◌+◌, ◌<◌, ◌≤◌}
use mathlib.Core.Path.{◌≡◌, refl, sym, ap, subst, ◌∙◌}
use mathlib.Core.List.{List, [], ◌∷◌, ◌++◌, append-nil}
use mathlib.Core.Bool.{Bool, true, false, cond, ◌&&◌, ◌||◌}
use native.Mathlib.Omega.{arith}
use borrow.Author.Tests.{le-leb, lt-leb}
use lib.ListN.{length, take, drop, length-append}
use lib.Seq.{take-add}
use lib.Dec.{leb, eqb}
use Rattle.ftd.specs.Bytes.{joined}
use Rattle.ftd.specs.Runs.{front, Run, run_of, ended}
use Rattle.ftd.specs.Fields.{field, fields_of, fid_of, bytes_of, all_small, shapely, shaped, one_if, counted, count_of}
use Rattle.ftd.specs.Table.{rows_of}
use Rattle.ftd.specs.Items.{other_width, any_other, wrong_width, items_good, walk_fields, walk_of}
use Rattle.ftd.specs.Content.{passed_then}
use Rattle.ftd.specs.declared.refusal.Refusal.TheVariants.{Item}
use Rattle.ftd.proofs.runs.Laws.{run-whole, run-joined, run-next}
use Rattle.ftd.proofs.runs.Turns.{and-false}
use Rattle.ftd.proofs.fields.Turns.{some-field}
use Rattle.ftd.proofs.chain.Laws.{fields-entries}
use Rattle.ftd.proofs.runs.Joined.{Entries, run-behind, run-of}
use Rattle.std.specs.Prelude.{Err}

-- ─── Lists of fields, one behind the other ───

small-append : (es fs : List (List ℕ)) → all_small (es ++ fs) ≡ (all_small es && all_small fs)
small-append [] fs = refl
small-append (e ∷ es) fs = go (leb (length e) 4080) (small-append es fs)
  where
    go : (b : Bool) → all_small (es ++ fs) ≡ (all_small es && all_small fs)
        → (b && all_small (es ++ fs)) ≡ ((b && all_small es) && all_small fs)
    go true h = h
    go false h = refl

widths-append : (es fs : List (List ℕ)) → any_other (es ++ fs) ≡ (any_other es || any_other fs)
widths-append [] fs = refl
widths-append (e ∷ es) fs = go (other_width (fid_of e) (length (bytes_of e))) (widths-append es fs)
  where
    go : (b : Bool) → any_other (es ++ fs) ≡ (any_other es || any_other fs)
        → (b || any_other (es ++ fs)) ≡ ((b || any_other es) || any_other fs)
    go true h = refl
    go false h = h

walk-append : (es fs : List (List ℕ)) → walk_fields (es ++ fs) ≡ passed_then (walk_fields es) (walk_fields fs)
walk-append [] fs = refl
walk-append (e ∷ es) fs = go (items_good (rows_of (fid_of e)) (bytes_of e)) (walk-append es fs)
  where
    go : (b : Bool) → walk_fields (es ++ fs) ≡ passed_then (walk_fields es) (walk_fields fs)
        → cond b (walk_fields (es ++ fs)) (Err Item) ≡ passed_then (cond b (walk_fields es) (Err Item))
        (walk_fields fs)
    go true h = h
    go false h = refl

counted-on : (fid : ℕ) (fs : List (List ℕ)) (n : ℕ) → counted fid fs n ≡ n + counted fid fs 0
counted-on fid [] n = omega arith
counted-on fid (f ∷ fs) n =
    omega (arith, counted-on fid fs (n + one_if (fid_of f) fid), counted-on fid fs (0 + one_if (fid_of f) fid))

counted-append : (fid : ℕ) (es fs : List (List ℕ)) (n : ℕ)
    → counted fid (es ++ fs) n ≡ counted fid es n + counted fid fs 0
counted-append fid [] fs n = counted-on fid fs n
counted-append fid (e ∷ es) fs n = counted-append fid es fs (n + one_if (fid_of e) fid)

and-swap : (x y z : Bool) → (x && (y && z)) ≡ (y && (x && z))
and-swap true true z = refl
and-swap true false z = refl
and-swap false true z = refl
and-swap false false z = refl

-- ─── Whole fields with anything behind them ───

module _ (a r : List ℕ) (whole : ended (run_of field a) ≡ true) where
  pub fields-behind : run_of field (a ++ r) ≡ record
      { entries = fields_of a ++ fields_of r; rest = (run_of field r).rest }
  fields-behind =
      ap (λ (l : List ℕ). run_of field (l ++ r)) (sym (run-whole field a whole))
      ∙ run-behind field some-field (fields_of a) (fields-entries a) r

  pub widths-behind : wrong_width (a ++ r) ≡ (wrong_width a || wrong_width r)
  unfolding wrong_width
  widths-behind = ap (λ (x : Run). any_other x.entries) fields-behind ∙ widths-append (fields_of a) (fields_of r)

  pub walks-behind : walk_of (a ++ r) ≡ passed_then (walk_of a) (walk_of r)
  unfolding walk_of
  walks-behind = ap (λ (x : Run). walk_fields x.entries) fields-behind ∙ walk-append (fields_of a) (fields_of r)

  pub counts_behind : (fid : ℕ) → count_of fid (a ++ r) ≡ count_of fid a + count_of fid r
  unfolding count_of
  counts_behind fid =
      ap (λ (x : Run). counted fid x.entries 0) fields-behind ∙ counted-append fid (fields_of a) (fields_of r) 0

  pub shapely-behind : shapely (run_of field (a ++ r)) ≡ (all_small (fields_of a) && shapely (run_of field r))
  shapely-behind =
      rw (fields-behind, small-append (fields_of a) (fields_of r))
      (and-swap (ended (run_of field r)) (all_small (fields_of a)) (all_small (fields_of r)))

  pub ended-behind : ended (run_of field (a ++ r)) ≡ ended (run_of field r)
  ended-behind = ap ended fields-behind

-- Within the limit, 7 is a matter of the fields.
pub shaped-within : (l : List ℕ) (limit : ℕ) → length l ≤ limit → shaped l limit ≡ shapely (run_of field l)
unfolding shaped
shaped-within l limit h = rw (le-leb (length l) limit h)

pub shaped-over : (l : List ℕ) (limit : ℕ) → limit < length l → shaped l limit ≡ false
unfolding shaped
shaped-over l limit h = rw (lt-leb (length l) limit h)

pub shaped-not : (l : List ℕ) (limit : ℕ) → shapely (run_of field l) ≡ false → shaped l limit ≡ false
unfolding shaped
shaped-not l limit e = rw e (and-false (leb (length l) limit))

-- ─── The field at the front ───

module _ (l : List ℕ) (at n : ℕ) (e : n ≡ front field (drop at l)) (z : n ≡ 0 → ⊥) where
  -- It is one whole field.
  pub field-alone : ended (run_of field (take n (drop at l))) ≡ true
  field-alone =
      ap ended
      (ap (run_of field) (sym (append-nil (take n (drop at l))))
      ∙ run-of field some-field (take n (drop at l) ∷ []) (here.0, tt))
    where
      here : Entries field (take n (drop at l) ∷ (run_of field (drop (at + n) l)).entries)
      here =
          subst (λ (x : Run). Entries field x.entries) (run-next field some-field l at n e z)
          (fields-entries (drop at l))

  -- Whole fields with it behind them are whole fields.
  pub whole-turn : ended (run_of field (take at l)) ≡ true → ended (run_of field (take (at + n) l)) ≡ true
  whole-turn w = rw (take-add at n l, ended-behind (take at l) (take n (drop at l)) w) field-alone

-- Nothing is whole fields.
pub none-whole : ended (run_of field []) ≡ true
unfolding run_of
none-whole = refl

-- ─── A field is not counted more often than the content has bytes ───

one-most : (x fid : ℕ) → one_if x fid ≤ 1
unfolding one_if
one-most x fid = go (eqb x fid)
  where
    go : (b : Bool) → cond b 1 0 ≤ 1
    go true = omega arith
    go false = omega arith

counted-most : (fid : ℕ) (es : List (List ℕ)) (n : ℕ) → Entries field es → counted fid es n ≤ n + length (joined es)
counted-most fid [] n a = omega arith
counted-most fid (e ∷ es) n a =
    let some : 0 < length e = a.0.some in
    rw length-append (omega (arith, one-most (fid_of e) fid, counted-most fid es (n + one_if (fid_of e) fid) a.1))

count_most : (fid : ℕ) (l : List ℕ) → count_of fid l ≤ length l
unfolding count_of
count_most fid l =
    let j : length (joined (fields_of l)) + length (run_of field l).rest ≡ length l =
    sym (length-append (joined (fields_of l)) (run_of field l).rest) ∙ ap length (run-joined field l) in
    omega (arith, counted-most fid (fields_of l) 0 (fields-entries l))

pub count-within : (fid x : ℕ) (l : List ℕ) → x ≡ count_of fid l → x ≤ length l
count-within fid x l e = rw e (count_most fid l)
