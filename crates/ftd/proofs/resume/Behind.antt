-- The start field behind whole fields: it is one field more, it is counted, and it is read back. Assumes nothing.
use Prim.Native.Nat.{ℕ, ◌+◌, ◌≤◌}
use mathlib.Core.Path.{◌≡◌, refl, sym, ap, ◌∙◌}
use mathlib.Core.List.{List, [], ◌∷◌, ◌++◌, append-nil}
use mathlib.Core.Bool.{Bool, true, false, cond}
use native.Mathlib.Omega.{arith}
use lib.ListN.{length, length-append}
use lib.Dec.{eqb}
use Rattle.ftd.specs.Bytes.{be16_of, be32_of, joined, bytes16, bytes32}
use Rattle.ftd.specs.Runs.{Run, run_of, ended}
use Rattle.ftd.specs.Fields.{field, fields_of, fid_of, field_with, one_if, counted, count_of, first_in, first_of}
use Rattle.ftd.specs.Resume.{resume_fid, resume_of, resume_bytes}
use Rattle.ftd.specs.declared.resume.Resume.TheVariants.{Next}
use Rattle.ftd.proofs.runs.Laws.{run-whole}
use Rattle.ftd.proofs.bytes.Numbers.{be16-behind, be32-behind}
use Rattle.ftd.proofs.fields.Turns.{some-field}
use Rattle.ftd.proofs.runs.Joined.{Entry, run-of}
use Rattle.ftd.proofs.chain.Laws.{joined-append, entries-snoc, fields-entries}
use Rattle.ftd.proofs.fields.Laws.{field-entry}
use Rattle.ftd.specs.Types.{some_field}

-- The field of twelve bytes is an entry.
resume-entry : (series number : ℕ) → Entry field (resume_bytes series number)
unfolding field_with
resume-entry series number = field-entry resume_fid (bytes16 series ++ bytes32 number)

pub fid-is : (series number : ℕ) → fid_of (resume_bytes series number) ≡ 4
unfolding be32_of
fid-is series number = refl

in-series : (series number : ℕ) → be16_of (resume_bytes series number) 6 ≡ series
unfolding be16_of
in-series series number = omega arith

in-number : (series number : ℕ) → be32_of (resume_bytes series number) 8 ≡ number
unfolding be32_of
in-number series number = omega arith

-- Counting on never falls, and adds nothing where no field is the one counted.
counted-least : (fs : List (List ℕ)) (n : ℕ) → n ≤ counted 4 fs n
counted-least [] n = omega arith
counted-least (f ∷ fs) n = omega (arith, counted-least fs (n + one_if (fid_of f) 4))

differs : (x : ℕ) → one_if x 4 ≡ 0 → eqb x 4 ≡ false
unfolding one_if
differs x = go (eqb x 4)
  where
    go : (b : Bool) → ◌≡◌ {A = ℕ} (cond b 1 0) 0 → b ≡ false
    go true e = absurd (omega arith)
    go false e = refl

first-behind : (series number at : ℕ) (fs : List (List ℕ)) (n : ℕ) → counted 4 fs n ≡ n
    → first_in at (fs ++ (resume_bytes series number ∷ [])) 4 ≡ some_field 4 (at + length (joined fs) + 6) 6
first-behind series number at [] n z = rw (fid-is series number) (ap (λ (k : ℕ). some_field 4 (k + 6) 6) (omega arith))
first-behind series number at (f ∷ fs) n z =
    let none : one_if (fid_of f) 4 ≡ 0 = omega (arith, counted-least fs (n + one_if (fid_of f) 4)) in
    let k : at + length (f ++ joined fs) + 6 ≡ at + length f + length (joined fs) + 6 =
    rw length-append (omega arith) in
    rw (differs (fid_of f) none, k) (first-behind series number (at + length f) fs n (same none z))
  where
    same : one_if (fid_of f) 4 ≡ 0 → counted 4 fs (n + one_if (fid_of f) 4) ≡ n → counted 4 fs n ≡ n
    same e p =
        let h : n + one_if (fid_of f) 4 ≡ n = omega arith in
        rw h at p

module _ (content : List ℕ) (series number : ℕ) (whole : ended (run_of field content) ≡ true) where
  both : List (List ℕ)
  both = fields_of content ++ (resume_bytes series number ∷ [])

  together : joined both ≡ content ++ resume_bytes series number
  unfolding both
  together =
      joined-append (fields_of content) (resume_bytes series number ∷ [])
      ∙ ap (λ (l : List ℕ). l ++ (resume_bytes series number ++ [])) (run-whole field content whole)
      ∙ ap (λ (l : List ℕ). content ++ l) (append-nil (resume_bytes series number))

  pub behind : run_of field (content ++ resume_bytes series number) ≡ record
      { entries = fields_of content ++ (resume_bytes series number ∷ []); rest = [] }
  unfolding both
  behind =
      ap (run_of field) (sym together)
      ∙ run-of field some-field both
      (entries-snoc (fields_of content) (resume_bytes series number) (fields-entries content)
      (resume-entry series number))

  counted-behind : (fs : List (List ℕ)) (n : ℕ)
      → counted 4 (fs ++ (resume_bytes series number ∷ [])) n ≡ counted 4 fs n + 1
  unfolding one_if
  counted-behind [] n = rw (fid-is series number)
  counted-behind (f ∷ fs) n = counted-behind fs (n + one_if (fid_of f) 4)

  pub counts : count_of 4 (content ++ resume_bytes series number) ≡ count_of 4 content + 1
  unfolding count_of
  counts = ap (λ (r : Run). counted 4 r.entries 0) behind ∙ counted-behind (fields_of content) 0

  -- ─── Read back ───

  long : length (joined (fields_of content)) ≡ length content
  long = ap length (run-whole field content whole)

  first-is : count_of 4 content ≡ 0 → first_of (content ++ resume_bytes series number) 4 ≡ some_field 4 (length content + 6) 6
  unfolding first_of count_of
  first-is z =
      ap (λ (r : Run). first_in 0 r.entries 4) behind
      ∙ first-behind series number 0 (fields_of content) 0 z
      ∙ ap (λ (n : ℕ). some_field 4 (n + 6) 6) (rw long (omega arith))

  series-back : be16_of (content ++ resume_bytes series number) (length content + 6) ≡ series
  series-back = be16-behind content (resume_bytes series number) 6 ∙ in-series series number

  number-back : be32_of (content ++ resume_bytes series number) (length content + 6 + 2) ≡ number
  number-back =
      let e : length content + 6 + 2 ≡ length content + 8 = omega arith in
      rw e (be32-behind content (resume_bytes series number) 8 ∙ in-number series number)

  pub back : count_of 4 content ≡ 0 → resume_of (content ++ resume_bytes series number) ≡ Next series number
  unfolding resume_of
  back z = rw (counts, z, first-is z, series-back, number-back)
