-- The start field (DisseminationstartField, FID 0x0004; 01, "The serving end"): the series, and the next number wanted
-- (4.3.3.2).
use Rattle.std.specs.Prelude.{ℕ, ◌+◌, ◌≤◌, ◌≡◌, List, [], ◌∷◌, ◌++◌, true, false, cond, ◌⊎◌, ltb, eqb}
use Rattle.ftd.specs.Bytes.{be16_of, be32_of, bytes16, bytes32}
use Rattle.ftd.specs.Runs.{run_of, ended}
use Rattle.ftd.specs.Fields.{field, fields_of, shaped, one_if, count_of, first_of}
use Rattle.ftd.specs.Composition.{composed}
use Rattle.ftd.specs.Items.{wrong_width, wrong_item}
use Rattle.ftd.specs.declared.composition.Direction.{Direction}
use Rattle.ftd.specs.declared.resume.Resume.{Resume}
use Rattle.ftd.specs.declared.resume.Resume.TheVariants.{Absent, Next, Misshapen, Several}
use Rattle.std.specs.Prelude.{Some, None}
use Rattle.ftd.specs.Types.{MaybeField}

abbrev pub resume_fid : ℕ
resume_fid = 0x0004

-- ─── Found ───

-- Series 2 bytes, number 4.
abbrev pub resume_at : List ℕ → MaybeField → Resume
resume_at content None = Absent
resume_at content (Some found) =
    cond (eqb found.len 6) (Next (be16_of content found.start) (be32_of content (found.start + 2))) Misshapen

unfoldable pub resume_of : List ℕ → Resume
resume_of content = cond (ltb 1 (count_of resume_fid content)) Several (resume_at content (first_of content resume_fid))

-- ─── Written ───

-- FID 4 bytes, length 2, series 2, number 4.
abbrev pub resume_bytes : ℕ → ℕ → List ℕ
resume_bytes series number = bytes32 resume_fid ++ (bytes16 6 ++ (bytes16 series ++ bytes32 number))

-- ─── What holds of it ───

pub record ResumeLaws : Type 0 where
  -- Behind whole fields it is one field more.
  pub behind : (content : List ℕ) (series number : ℕ) → ended (run_of field content) ≡ true
      → run_of field (content ++ resume_bytes series number) ≡ record
      { entries = fields_of content ++ (resume_bytes series number ∷ []); rest = [] }
  -- It is counted.
  pub counts : (content : List ℕ) (series number : ℕ) → ended (run_of field content) ≡ true
      → count_of resume_fid (content ++ resume_bytes series number) ≡ count_of resume_fid content + 1
  pub counts_each : (content : List ℕ) (series number fid : ℕ) → ended (run_of field content) ≡ true
      → count_of fid (content ++ resume_bytes series number) ≡ count_of fid content + one_if resume_fid fid
  -- 7, 8 and 9 say the same of the content with it as of the content, but for its twelve bytes.
  pub shape : (content : List ℕ) (series number limit : ℕ) → shaped content limit ≡ true
      → shaped (content ++ resume_bytes series number) (limit + 12) ≡ true
  pub widths : (content : List ℕ) (series number : ℕ) → ended (run_of field content) ≡ true
      → wrong_width (content ++ resume_bytes series number) ≡ wrong_width content
  pub items : (content : List ℕ) (series number : ℕ) → ended (run_of field content) ≡ true
      → wrong_item (content ++ resume_bytes series number) ≡ wrong_item content
  -- 10 says the same whichever series and number it has.
  pub composes : (content : List ℕ) (series number tid : ℕ) (d : Direction) → ended (run_of field content) ≡ true
      → composed tid d (content ++ resume_bytes series number) ≡ composed tid d (content ++ resume_bytes 0 0)
  -- Behind whole fields without one it is read back.
  pub back : (content : List ℕ) (series number : ℕ) → ended (run_of field content) ≡ true → count_of resume_fid content ≡ 0
      → resume_of (content ++ resume_bytes series number) ≡ Next series number
  -- Where 8 passes and there is at most one, there is none or it has its values.
  pub right : (content : List ℕ) → wrong_width content ≡ false → count_of resume_fid content ≤ 1
      → (resume_of content ≡ Absent) ⊎ ((series : ℕ) × (number : ℕ) × (resume_of content ≡ Next series number))
