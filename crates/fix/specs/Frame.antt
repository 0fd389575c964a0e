-- The frame (002, 5.2): 8=FIX.4.2, 9=body length, 35=type, the fields, 10=checksum, each closed by SOH; at most 4,096
-- bytes.
use Rattle.std.specs.Prelude.{ℕ, ◌+◌, ◌-◌, ◌≤◌, List, [], ◌∷◌, ◌++◌, Bool, false, cond, ◌&&◌, not, length, take, drop, ltb, eqb}
use Rattle.ftd.specs.Bytes.{part}
use Rattle.ftd.specs.Packet.{span}
use Rattle.fix.specs.Text.{soh, until, stands_at, sum_of, length_text, sum_text}
use Rattle.fix.specs.Fields.{is_whole}
use Rattle.std.specs.Prelude.{Some, None}
use Rattle.fix.specs.Types.{MaybeFrame, some_frame}

-- A frame has at most so many bytes.
abbrev pub most_frame : ℕ
most_frame = 4096

-- `8=FIX.4.2` SOH `9=`
abbrev pub begin_text : List ℕ
begin_text = 56 ∷ 61 ∷ 70 ∷ 73 ∷ 88 ∷ 46 ∷ 52 ∷ 46 ∷ 50 ∷ 1 ∷ 57 ∷ 61 ∷ []

-- SOH `35=`
abbrev pub type_text : List ℕ
type_text = 1 ∷ 51 ∷ 53 ∷ 61 ∷ []

-- ─── Written ───

-- The body: from 35 up to the SOH before 10.
unfoldable pub body_length : List ℕ → List ℕ → ℕ
body_length name run = 4 + length name + length run

-- SOH `35=` the type SOH the fields
unfoldable pub body_bytes : List ℕ → List ℕ → List ℕ
body_bytes name run = type_text ++ (name ++ (soh ∷ run))

-- All before 10.
unfoldable pub summed : List ℕ → List ℕ → List ℕ
summed name run = begin_text ++ (length_text (body_length name run) ++ body_bytes name run)

-- `10=` the sum in three digits SOH
unfoldable pub trailer : ℕ → List ℕ
trailer sum = 49 ∷ 48 ∷ 61 ∷ (sum_text sum ++ (soh ∷ []))

unfoldable pub frame_bytes : List ℕ → List ℕ → List ℕ
frame_bytes name run = summed name run ++ trailer (sum_of (summed name run))

-- A type has a byte at least, and no SOH.
unfoldable pub is_name : List ℕ → Bool
is_name name = cond (eqb (length name) 0) false (eqb (until soh name) (length name))

-- Row 28 of what is to be written: type and fields are a frame.
unfoldable pub is_framed : List ℕ → List ℕ → Bool
is_framed name run =
    is_name name && (is_whole run && not (ltb most_frame (length (frame_bytes name run))))

-- ─── Read ───

-- The type has t bytes, and stands behind `35=` at `start` in a body of so many bytes; the fields are behind it.
unfoldable pub type_at : List ℕ → ℕ → ℕ → ℕ → MaybeFrame
type_at b start size t =
    cond (eqb t 0) None
    (cond (ltb size (4 + t)) None (some_frame (span (start + 3) t) (span (start + 4 + t) (size - (4 + t)))))

-- The body of so many bytes stands behind a length of n bytes.
unfoldable pub body_at : List ℕ → ℕ → ℕ → MaybeFrame
body_at b n size =
    cond (stands_at b 12 (length_text size ++ type_text))
    (cond (stands_at b (13 + n + size) (trailer (sum_of (take (13 + n + size) b))))
    (type_at b (13 + n) size (until soh (drop (16 + n) b)))
    None)
    None

-- The length has n bytes: up to the next SOH.
unfoldable pub length_at : List ℕ → ℕ → MaybeFrame
length_at b n = cond (ltb (length b) (24 + n)) None (body_at b n (length b - (20 + n)))

-- All but that the fields have a cut.
unfoldable pub outline_of : List ℕ → MaybeFrame
outline_of b =
    cond (ltb most_frame (length b)) None
    (cond (stands_at b 0 begin_text) (length_at b (until soh (drop 12 b))) None)

abbrev pub if_whole : List ℕ → MaybeFrame → MaybeFrame
if_whole b None = None
if_whole b (Some found) =
    cond (is_whole (part b found.fields.start found.fields.len)) (some_frame found.name found.fields) None

-- One whole frame: where its type and its fields stand.
unfoldable pub frame_of : List ℕ → MaybeFrame
frame_of b = if_whole b (outline_of b)

-- Both places lie inside.
abbrev pub FrameInside : List ℕ → MaybeFrame → Type 0
FrameInside b None = Unit
FrameInside b (Some found) =
    (found.name.start + found.name.len ≤ length b) × (found.fields.start + found.fields.len ≤ length b)
