-- What the private functions of cutting and writing a message promise; only their contracts use it.
use Rattle.std.specs.Prelude.{ℕ, ◌+◌, ◌-◌, ◌<◌, ◌≤◌, ◌≡◌, List, [], ◌∷◌, true, false, cond, length, drop}
use Rattle.ftd.specs.Bytes.{part, joined, put}
use Rattle.ftd.specs.Runs.{run_of}
use Rattle.ftd.specs.Fields.{field, fields_of, shapely, packet_content}
use Rattle.ftd.specs.Chain.{Piece, no_fields, pack, pieces_of, framed}
use Rattle.ftd.specs.declared.refusal.Refusal.TheVariants.{FieldRun}
use Rattle.ftd.specs.declared.chain.Cut.{Cut}
use Rattle.ftd.specs.declared.chain.Message.{Message}
use Rattle.ftd.specs.Types.{ChainSize}
use Rattle.std.specs.Prelude.{Some, None, Ok, Err}
use Rattle.ftd.specs.Types.{MaybePiece}

-- The pieces of the fields behind a piece.
abbrev pub others_of : List (List ℕ) → List Piece
others_of [] = []
others_of (f ∷ fs) = pack no_fields (f ∷ fs)

abbrev pub piece_at : List ℕ → ℕ → Cut → Piece
piece_at content at c = record { count = c.count; bytes = part content at (c.end - at) }

-- From a place on whole fields that a packet holds end there, so many of them; what is left is as shapely as all from
-- the place on. Where that is shapely, they are the content's first piece, and the others are those of what is left.
-- Where none is taken though bytes are left, it is not.
pub record NextPiece (content : List ℕ) (at : ℕ) (c : Cut) : Type 0 where
  pub pieces : shapely (run_of field (drop at content)) ≡ true
      → pieces_of (drop at content) ≡ piece_at content at c ∷ others_of (fields_of (drop c.end content))
  pub low : at ≤ c.end
  pub high : c.end ≤ length content
  pub small : c.end ≤ at + packet_content
  pub few : c.count ≤ c.end - at
  pub left : shapely (run_of field (drop c.end content)) ≡ shapely (run_of field (drop at content))
  pub stuck : c.end ≡ at → c.end < length content → shapely (run_of field (drop at content)) ≡ false

-- Piece i of a content starts at a place and is the first piece from there on, and each piece before it has a byte; or
-- there are no more than i.
abbrev pub FoundPiece : List ℕ → ℕ → MaybePiece → Type 0
FoundPiece content i None = length (pieces_of content) ≤ i
FoundPiece content i (Some found) =
    NextPiece content found.at found.cut × (shapely (run_of field (drop found.at content)) ≡ true)
    × (drop i (pieces_of content) ≡ pieces_of (drop found.at content)) × (i ≤ found.at)

-- The packets of a content from a place on, packet j first, at a place of the output: how far they reach, 0 where the
-- content is not shapely from there on; they are put where they fit, and otherwise the output stays.
abbrev pub rest_of : Message → ℕ → List ℕ → ℕ → List ℕ
rest_of m j content at = joined (framed m j (pieces_of (drop at content)))

pub record PutRest (m : Message) (j : ℕ) (content : List ℕ) (at to : ℕ) (before after : List ℕ)
    (reach : ℕ) : Type 0 where
  pub broken : shapely (run_of field (drop at content)) ≡ false → (reach ≡ 0) × (after ≡ before)
  pub reaches : shapely (run_of field (drop at content)) ≡ true → reach ≡ to + length (rest_of m j content at)
  pub stays : shapely (run_of field (drop at content)) ≡ true → length before < reach → after ≡ before
  pub puts : shapely (run_of field (drop at content)) ≡ true → reach ≤ length before
      → after ≡ put before to (rest_of m j content at)

-- The bytes of packets with an extension of so many: four, the extension, the header's sixteen and the piece.
abbrev pub size_of : ℕ → List Piece → ℕ
size_of ext [] = 0
size_of ext (p ∷ ps) = 4 + ext + (16 + length p.bytes) + size_of ext ps

-- Pieces measured; refused where the content is not shapely.
unfoldable pub measure_of : ℕ → List ℕ → ChainSize
measure_of ext content =
    cond (shapely (run_of field content))
    (Ok (record { packets = length (pieces_of content); bytes = size_of ext (pieces_of content) }))
    (Err FieldRun)
