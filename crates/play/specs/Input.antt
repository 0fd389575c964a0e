-- Lines out of input that comes piece by piece: what `input::take_line` gives, the lines of an input, and that the
-- lines taken are these however the input is cut into pieces.
use Rattle.std.specs.Prelude.{ℕ, zero, suc, ◌+◌, ◌<◌, ◌≤◌, ◌≡◌, List, [], ◌∷◌, ◌++◌, map, Bool, true, false, cond, not, ◌&&◌, ◌||◌, length, take, drop, set, ltb, eqb}
use Rattle.std.proofs.Math.Option.{Option, none, some}
use Rattle.ftd.specs.Bytes.{joined}

-- ─── One call ───

-- How far the input was taken, how many bytes of the line there are, whether it ended, and every byte of its buffer.
pub record LineTaken : Type 0 where
  pub at : ℕ
  pub have : ℕ
  pub whole : Bool
  pub line : List ℕ

abbrev pub line_taken : ℕ → ℕ → Bool → List ℕ → LineTaken
line_taken at have whole line = record { at = at; have = have; whole = whole; line = line }

-- One byte behind those that are there, where the buffer has room; and how many there are then. One more than the
-- buffer has stands for a line that is too long.
abbrev pub with_byte : List ℕ → ℕ → ℕ → List ℕ
with_byte line have x = cond (ltb have (length line)) (set line have x) line

abbrev pub with_one : List ℕ → ℕ → ℕ
with_one line have = cond (ltb have (length line)) (have + 1) (length line + 1)

-- Byte by byte up to the end of the line, a byte 10, which is taken and is no part of the line.
abbrev pub take_from : ℕ → List ℕ → ℕ → List ℕ → LineTaken
take_from at line have [] = line_taken at have false line
take_from at line have (x ∷ l) =
    cond (eqb x 10) (line_taken (at + 1) have true line)
    (take_from (at + 1) (with_byte line have x) (with_one line have) l)

unfoldable pub take_line_of : List ℕ → ℕ → List ℕ → ℕ → LineTaken
take_line_of input at line have = take_from at line have (drop at input)

-- ─── The lines of an input ───

-- What stands before each byte 10, and what is left behind the last of them.
pub record Lined : Type 0 where
  pub lines : List (List ℕ)
  pub rest : List ℕ

abbrev pub lined : List (List ℕ) → List ℕ → Lined
lined lines rest = record { lines = lines; rest = rest }

abbrev pub ahead : List ℕ → Lined → Lined
ahead l r = lined (l ∷ r.lines) r.rest

-- Of a line some bytes are there.
abbrev pub lines_from : List ℕ → List ℕ → Lined
lines_from begun [] = lined [] begun
lines_from begun (x ∷ l) = cond (eqb x 10) (ahead begun (lines_from [] l)) (lines_from (begun ++ (x ∷ [])) l)

unfoldable pub lines_of : List ℕ → Lined
lines_of l = lines_from [] l

-- Each line with its end behind it.
abbrev pub ended : List (List ℕ) → List ℕ
ended [] = []
ended (l ∷ ls) = (l ++ (10 ∷ [])) ++ ended ls

-- A byte 10 stands in a line; in none of the lines.
abbrev pub has_end : List ℕ → Bool
has_end [] = false
has_end (x ∷ l) = eqb x 10 || has_end l

abbrev pub no_ends : List (List ℕ) → Bool
no_ends [] = true
no_ends (l ∷ ls) = not (has_end l) && no_ends ls

-- ─── Lines taken from pieces ───

-- A line as a buffer of a size shows it, and the line that a buffer shows: none is one that is too long.
abbrev pub shown_of : ℕ → List ℕ → Option (List ℕ)
shown_of size l = cond (ltb size (length l)) none (some l)

abbrev pub in_buffer : List ℕ → ℕ → Option (List ℕ)
in_buffer line have = cond (ltb (length line) have) none (some (take have line))

-- The lines that ended, the buffer, and how many bytes of the next line are there.
pub record Reached : Type 0 where
  pub lines : List (Option (List ℕ))
  pub line : List ℕ
  pub have : ℕ

abbrev pub reached : List (Option (List ℕ)) → List ℕ → ℕ → Reached
reached lines line have = record { lines = lines; line = line; have = have }

abbrev pub behind : List (Option (List ℕ)) → Reached → Reached
behind lines r = reached (lines ++ r.lines) r.line r.have

-- A call behind which `more` goes on: a line that ended is shown, and the next one has no byte.
abbrev pub onward : (ℕ → List ℕ → ℕ → Reached) → LineTaken → Reached
onward more t =
    cond t.whole (behind (in_buffer t.line t.have ∷ []) (more t.at t.line 0))
    (more t.at t.line t.have)

-- One piece, from a place on: call after call until it is taken, at most so many.
abbrev pub over_piece : ℕ → List ℕ → ℕ → List ℕ → ℕ → Reached
over_piece zero piece at line have = reached [] line have
over_piece (suc most) piece at line have =
    cond (ltb at (length piece)) (onward (over_piece most piece) (take_line_of piece at line have)) (reached [] line have)

-- Piece after piece.
abbrev pub over_pieces : List ℕ → ℕ → List (List ℕ) → Reached
over_pieces line have [] = reached [] line have
over_pieces line have (p ∷ ps) =
    let r = over_piece (length p) p 0 line have in
    behind r.lines (over_pieces r.line r.have ps)

-- ─── The statement ───

pub record LineLaws : Type 0 where
  -- The lines of an input, each with its end, and what is left are the input, and no other end stands in them.
  pub whole : (l : List ℕ) → ended (lines_of l).lines ++ (lines_of l).rest ≡ l
  pub ends : (l : List ℕ) → (no_ends (lines_of l).lines ≡ true) × (has_end (lines_of l).rest ≡ false)
  -- However an input is cut, the lines taken from its pieces are its lines, and what the buffer has then is what is
  -- left of it; a line longer than the buffer is shown as too long.
  pub lines : (line : List ℕ) (pieces : List (List ℕ))
      → (over_pieces line 0 pieces).lines ≡ map (shown_of (length line)) (lines_of (joined pieces)).lines
  pub rest : (line : List ℕ) (pieces : List (List ℕ)) →
      let r = over_pieces line 0 pieces in
      in_buffer r.line r.have ≡ shown_of (length line) (lines_of (joined pieces)).rest
  pub same-buffer : (line : List ℕ) (pieces : List (List ℕ)) → length (over_pieces line 0 pieces).line ≡ length line
  -- A call takes a byte where one is left, and none that isn't there.
  pub takes : (input line : List ℕ) (at have : ℕ) → at < length input
      → (at < (take_line_of input at line have).at) × ((take_line_of input at line have).at ≤ length input)
