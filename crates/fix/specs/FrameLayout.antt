-- The frame as pairs (002, 5.2): 8, 9, 35, the fields, 10; the length of all from 35 up to before 10, the byte sum
-- modulo 256 in three digits, at most 4,096 bytes. Row 28 takes exactly such bytes for a frame, in writing too.
use Rattle.std.specs.Prelude.{ℕ, ◌+◌, ◌/◌, ◌%◌, ◌≤◌, ◌≡◌, List, [], ◌∷◌, ◌++◌, true, length, drop}
use Rattle.fix.specs.Text.{total}
use Rattle.fix.specs.Fields.{is_whole}
use Rattle.fix.specs.Frame.{is_framed}
use Rattle.fix.specs.Write.{write_answer, write_output}
use Rattle.fix.specs.RoundTrips.{text_at}
use Rattle.fix.specs.Pairs.{pair, decimal, bytes_of, NoSoh}
use Rattle.fix.specs.Rows.{Framing}
use Rattle.std.specs.Prelude.{Ok}

-- The type and the fields, a run of bytes.
abbrev pub body_of : List ℕ → List ℕ → List ℕ
body_of name run = bytes_of (pair 35 name ∷ []) ++ run

-- `FIX.4.2`, and the body's length.
abbrev pub before_sum : List ℕ → List ℕ → List ℕ
before_sum name run =
    bytes_of (pair 8 (70 ∷ 73 ∷ 88 ∷ 46 ∷ 52 ∷ 46 ∷ 50 ∷ []) ∷ pair 9 (decimal (length (body_of name run))) ∷ [])
    ++ body_of name run

abbrev pub three_digits : ℕ → List ℕ
three_digits n = (48 + n / 100) ∷ (48 + n / 10 % 10) ∷ (48 + n % 10) ∷ []

abbrev pub laid_out : List ℕ → List ℕ → List ℕ
laid_out name run = before_sum name run ++ bytes_of (pair 10 (three_digits (total (before_sum name run) % 256)) ∷ [])

-- A type has a byte at least and no SOH; the run is one of fields; and all is short enough.
pub record Fits (name run : List ℕ) : Type 0 where
  pub some : 1 ≤ length name
  pub plain : NoSoh name
  pub cut : is_whole run ≡ true
  pub most : length (laid_out name run) ≤ 4096

pub record FrameLayout : Type 0 where
  -- What is taken for a frame is laid out so; what is laid out so is taken for a frame of this type and these fields.
  pub read : (b : List ℕ) (f : Framing b) → (b ≡ laid_out (text_at b f.name) (text_at b f.fields))
      × Fits (text_at b f.name) (text_at b f.fields)
  pub found : (name run : List ℕ) → Fits name run
      → (f : Framing (laid_out name run)) × (text_at (laid_out name run) f.name ≡ name)
      × (text_at (laid_out name run) f.fields ≡ run)
  -- What is written is laid out so; and the writer's first test passes exactly what fits.
  pub written : (name run out : List ℕ) (n : ℕ) → write_answer name run (length out) ≡ Ok n
      → (n ≡ length (laid_out name run)) × (write_output name run out ≡ laid_out name run ++ drop n out)
  pub fits : (name run : List ℕ) → Fits name run → is_framed name run ≡ true
  pub fitted : (name run : List ℕ) → is_framed name run ≡ true → Fits name run
