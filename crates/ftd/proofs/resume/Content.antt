-- Content with the start field behind it: shape, widths, items, counts and make-up; and where 8 and 10 pass, the start
-- field is right or absent. Assumes nothing.
use Prim.Native.Nat.{ℕ, ◌+◌, ◌-◌, ◌≤◌, ◌/◌, ◌%◌}
use mathlib.Core.Path.{◌≡◌, refl, sym, ap, ◌∙◌}
use mathlib.Core.List.{List, [], ◌∷◌, ◌++◌}
use mathlib.Core.Bool.{Bool, true, false, cond, ◌&&◌, ◌||◌}
use mathlib.Core.Logic.{◌⊎◌, inl, inr}
use native.Mathlib.Omega.{arith}
use borrow.Author.Tests.{le-ltb, le-leb, eqb-true, not-false}
use lib.ListN.{length, length-append, length-drop}
use lib.Dec.{T, leb, eqb}
use Rattle.ftd.specs.Bytes.{be16_of, be32_of}
use Rattle.ftd.specs.Runs.{Run, run_of, ended}
use Rattle.ftd.specs.Fields.{field, fields_of, fid_of, bytes_of, all_small, shaped, one_if, counted, count_of, first_in}
use Rattle.ftd.specs.Fields.{first_of}
use Rattle.ftd.specs.Table.{table, rows_of, width_of, known}
use Rattle.ftd.specs.Values.{is_value}
use Rattle.ftd.specs.Items.{other_width, any_other, wrong_width, items_good, walk_fields, walk_of, is_refused, wrong_item}
use Rattle.ftd.specs.Composition.{CompositionLine, direction_of, appendix_e, in_range, all_hold, composed}
use Rattle.ftd.specs.Resume.{resume_fid, resume_at, resume_of, resume_bytes, ResumeLaws}
use Rattle.ftd.specs.declared.composition.Direction.{Direction}
use Rattle.ftd.specs.declared.composition.Direction.TheVariants.{Up}
use Rattle.ftd.specs.Types.{Checked}
use Rattle.ftd.specs.declared.refusal.Refusal.TheVariants.{Item}
use Rattle.ftd.specs.declared.resume.Resume.{Resume}
use Rattle.ftd.specs.declared.resume.Resume.TheVariants.{Absent, Next}
use Rattle.ftd.proofs.table.Rule.{is_true}
use Rattle.ftd.proofs.packet.Laws.{by-test}
use Rattle.ftd.proofs.chain.Pieces.{shaped-facts}
use Rattle.ftd.proofs.chain.Singles.{shaped-ended}
use Rattle.ftd.proofs.resume.Behind.{fid-is, behind, counts, back}
use Rattle.std.specs.Prelude.{Err}
use Rattle.ftd.specs.Types.{MaybeField, some_field}

-- ─── The field itself ───

-- It is known and six bytes wide, and its items are values.
start-known : known resume_fid ≡ true
unfolding rows_of table
start-known = refl

start-wide : width_of resume_fid ≡ 6
unfolding rows_of table
start-wide = refl

six-items : (a b c d e f : ℕ) → T (items_good (rows_of resume_fid) (a ∷ b ∷ c ∷ d ∷ e ∷ f ∷ []))
unfolding rows_of table is_value
six-items a b c d e f = tt

start-items : (s k : ℕ) → items_good (rows_of resume_fid) (bytes_of (resume_bytes s k)) ≡ true
start-items s k = is_true _ (six-items (s / 256) (s % 256) (k / 16777216) (k / 65536 % 256) (k / 256 % 256) (k % 256))

-- ─── A list of fields with it at the end ───

small-behind : (s k : ℕ) (fs : List (List ℕ)) → all_small (fs ++ (resume_bytes s k ∷ [])) ≡ all_small fs
small-behind s k [] = refl
small-behind s k (f ∷ fs) = ap (λ (b : Bool). leb (length f) 4080 && b) (small-behind s k fs)

widths-behind : (s k : ℕ) (fs : List (List ℕ)) → any_other (fs ++ (resume_bytes s k ∷ [])) ≡ any_other fs
widths-behind s k [] = rw (fid-is s k, start-known, start-wide)
widths-behind s k (f ∷ fs) = ap (λ (b : Bool). other_width (fid_of f) (length (bytes_of f)) || b) (widths-behind s k fs)

items-behind : (s k : ℕ) (fs : List (List ℕ)) → walk_fields (fs ++ (resume_bytes s k ∷ [])) ≡ walk_fields fs
items-behind s k [] = rw (fid-is s k, start-items s k)
items-behind s k (f ∷ fs) =
    ap (λ (c : Checked). cond (items_good (rows_of (fid_of f)) (bytes_of f)) c (Err Item)) (items-behind s k fs)

counted-behind : (s k fid : ℕ) (fs : List (List ℕ)) (n : ℕ)
    → counted fid (fs ++ (resume_bytes s k ∷ [])) n ≡ counted fid fs n + one_if resume_fid fid
counted-behind s k fid [] n = rw (fid-is s k)
counted-behind s k fid (f ∷ fs) n = counted-behind s k fid fs (n + one_if (fid_of f) fid)

-- ─── Content with it behind ───

-- 7: from a limit to one that is 12 above it.
pub start-shaped : (c : List ℕ) (s k limit : ℕ) → shaped c limit ≡ true
    → shaped (c ++ resume_bytes s k) (limit + 12) ≡ true
unfolding shaped
start-shaped c s k limit h =
    let f = shaped-facts c limit (shaped c limit) refl h in
    let n : length (c ++ resume_bytes s k) ≤ limit + 12 =
    rw (length-append c (resume_bytes s k)) (let g = f.0 in omega arith) in
    rw (
      le-leb (length (c ++ resume_bytes s k)) (limit + 12) n,
      behind c s k (shaped-ended c limit h),
      small-behind s k
          (fields_of c),
    )
    (small (ended (run_of field c)) f.1)
  where
    small : (b : Bool) → (b && all_small (fields_of c)) ≡ true → all_small (fields_of c) ≡ true
    small true e = e
    small false e = let z : ◌≡◌ {A = ℕ} 0 1 = cc in absurd (omega arith)

-- Where each field is counted as often, make-up is the same.
holds_same : (rs : List CompositionLine) (tid direction : ℕ) (a b : List ℕ)
    → ((fid : ℕ) → count_of fid a ≡ count_of fid b) → all_hold rs tid direction a ≡ all_hold rs tid direction b
holds_same [] tid direction a b e = refl
holds_same (r ∷ rs) tid direction a b e = rw (e r.fid, holds_same rs tid direction a b e)

module _ (c : List ℕ) (s k : ℕ) (whole : ended (run_of field c) ≡ true) where
  -- 8 and 9.
  pub start-widths : wrong_width (c ++ resume_bytes s k) ≡ wrong_width c
  unfolding wrong_width
  start-widths = ap (λ (r : Run). any_other r.entries) (behind c s k whole) ∙ widths-behind s k (fields_of c)

  pub start-walks : walk_of (c ++ resume_bytes s k) ≡ walk_of c
  unfolding walk_of
  start-walks = ap (λ (r : Run). walk_fields r.entries) (behind c s k whole) ∙ items-behind s k (fields_of c)

  pub start-item : wrong_item (c ++ resume_bytes s k) ≡ wrong_item c
  unfolding wrong_item
  start-item = ap is_refused start-walks

  -- The count of each FID; only that of the start field grows.
  pub start-counts : (fid : ℕ) → count_of fid (c ++ resume_bytes s k) ≡ count_of fid c + one_if resume_fid fid
  unfolding count_of
  start-counts fid =
      ap (λ (r : Run). counted fid r.entries 0) (behind c s k whole) ∙ counted-behind s k fid (fields_of c) 0

  -- 10, of a login upward: the login field once, and the start field at most once.
  login-composed : (l : List ℕ) → composed 22 Up l ≡ (in_range 1 1 (count_of 35 l) && (in_range 0 1 (count_of 4 l) && true))
  unfolding composed appendix_e
  login-composed l = refl

  other-one : one_if 4 35 ≡ 0
  unfolding one_if
  other-one = refl

  pub start-composed : count_of 4 c ≡ 0 → composed 22 Up (c ++ resume_bytes s k) ≡ composed 22 Up c
  unfolding in_range one_if
  start-composed z =
      let a : count_of 35 (c ++ resume_bytes s k) ≡ count_of 35 c = start-counts 35 ∙ rw (other-one) (omega arith) in
      rw (login-composed (c ++ resume_bytes s k), login-composed c, a, start-counts 4, z)

-- 10: whichever series and number it has.
pub start-any : (c : List ℕ) (s k : ℕ) → ended (run_of field c) ≡ true → (tid : ℕ) (d : Direction)
    → composed tid d (c ++ resume_bytes s k) ≡ composed tid d (c ++ resume_bytes 0 0)
unfolding composed
start-any c s k whole tid d =
    holds_same appendix_e tid (direction_of d) _ _
    (λ fid. start-counts c s k whole fid ∙ sym (start-counts c 0 0 whole fid))

-- ─── Where 8 and 10 pass ───

abbrev Right : Resume → Type 0
Right r = (r ≡ Absent) ⊎ ((s : ℕ) × (k : ℕ) × (r ≡ Next s k))

six-wide : (n : ℕ) → other_width resume_fid n ≡ false → eqb n 6 ≡ true
six-wide n h = not-false (eqb n 6) (rw (start-known, start-wide) at h)

neither : (a b : Bool) → (a || b) ≡ false → (a ≡ false) × (b ≡ false)
neither true b h = (h, cc)
neither false b h = (refl, h)

module _ (c : List ℕ) where
  found_right : (f : List ℕ) (at : ℕ) → other_width (fid_of f) (length (bytes_of f)) ≡ false
      → eqb (fid_of f) resume_fid ≡ true
      → Right (resume_at c (some_field (fid_of f) (at + 6) (length f - 6)))
  found_right f at h e =
      let w : other_width resume_fid (length f - 6) ≡ false = rw (eqb-true (fid_of f) resume_fid e, length-drop) at h in
      inr (be16_of c (at + 6), be32_of c (at + 6 + 2), rw (six-wide (length f - 6) w))

  first-right : (at : ℕ) (fs : List (List ℕ)) → any_other fs ≡ false → Right (resume_at c (first_in at fs resume_fid))
  first-right at [] h = inl refl
  first-right at (f ∷ fs) h =
      let x = neither _ _ h in
      by-test (λ (p : MaybeField). Right (resume_at c p)) (eqb (fid_of f) resume_fid) (λ b. found_right f at x.0 b)
      (λ b. first-right (at + length f) fs x.1)

  pub start_right : wrong_width c ≡ false → count_of resume_fid c ≤ 1 → Right (resume_of c)
  unfolding resume_of first_of wrong_width
  start_right h n = rw (le-ltb 1 (count_of resume_fid c) n) (first-right 0 (fields_of c) h)

-- ─── All of it ───

pub resume-laws : ResumeLaws
resume-laws =
    record {
      behind = behind;
      counts = counts;
      counts_each = λ c s k fid whole. start-counts c s k whole fid;
      shape = start-shaped;
      widths = start-widths;
      items = start-item;
      composes = λ c s k tid d whole. start-any c s k whole tid d;
      back = back;
      right = start_right;
    }
