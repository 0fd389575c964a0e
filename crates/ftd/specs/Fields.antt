-- The content of a message (4.2; 01, "Message packet"): a run of data fields, each FID 4 bytes, length 2, that many
-- bytes.
pub mod Helpers
pub mod Laws
use Rattle.std.specs.Prelude.{ℕ, zero, suc, ◌+◌, ◌-◌, ◌≤◌, List, [], ◌∷◌, ◌++◌, map, Bool, ◌&&◌, true, cond, length, drop, eqb, leb}
use Rattle.ftd.specs.Bytes.{be16_of, be32_of, joined, bytes16, bytes32}
use Rattle.ftd.specs.Runs.{Form, Run, run_of, ended}
use Rattle.std.specs.Prelude.{Some, None}
use Rattle.ftd.specs.Types.{MaybeField, some_field}

-- ─── Limits (01, "Message packet") ───

-- The content of a packet: a body of at most 4,096 bytes less its header's 16.
abbrev pub packet_content : ℕ
packet_content = 4080

-- The bytes of a field that a packet holds, without FID and length.
abbrev pub field_content : ℕ
field_content = 4074

-- The content of a message.
abbrev pub most_content : ℕ
most_content = 32768

-- ─── The form of a field ───

unfoldable pub field : Form
field = record { head = 6; follow = λ l. be16_of l 4 }

-- The fields of a content, each with its FID and length.
abbrev pub fields_of : List ℕ → List (List ℕ)
fields_of content = (run_of field content).entries

-- The FID of a field, and its bytes without FID and length.
abbrev pub fid_of : List ℕ → ℕ
fid_of f = be32_of f 0

abbrev pub bytes_of : List ℕ → List ℕ
bytes_of f = drop 6 f

-- ─── Refusal 7: the content is exactly that many fields ───

abbrev pub exactly : Run → ℕ → Bool
exactly r count = ended r && eqb (length r.entries) count

unfoldable pub exact_run : List ℕ → ℕ → Bool
exact_run content count = exactly (run_of field content) count

-- ─── Field i, counted from 0 ───

-- In a list of fields that starts at `at`: FID, and place and length of the bytes without FID and length.
abbrev pub field_in : ℕ → List (List ℕ) → ℕ → MaybeField
field_in at [] i = None
field_in at (f ∷ fs) zero = some_field (fid_of f) (at + 6) (length f - 6)
field_in at (f ∷ fs) (suc i) = field_in (at + length f) fs i

unfoldable pub field_place_of : List ℕ → ℕ → MaybeField
field_place_of content i = field_in 0 (fields_of content) i

-- The bytes lie inside the content.
abbrev pub FieldInside : List ℕ → MaybeField → Type 0
FieldInside content None = Unit
FieldInside content (Some found) = found.start + found.len ≤ length content

-- ─── Written ───

-- FID 4 bytes, length 2, the bytes.
unfoldable pub field_with : ℕ → List ℕ → List ℕ
field_with fid bytes = bytes32 fid ++ (bytes16 (length bytes) ++ bytes)

-- A field by its values: FID, and bytes without FID and length.
pub record Given : Type 0 where
  pub fid : ℕ
  pub bytes : List ℕ

abbrev pub given_of : List ℕ → Given
given_of f = record { fid = fid_of f; bytes = bytes_of f }

-- Fields by their values, and one behind the other.
abbrev pub fields_with : List Given → List (List ℕ)
fields_with gs = map (λ (g : Given). field_with g.fid g.bytes) gs

abbrev pub content_with : List Given → List ℕ
content_with gs = joined (fields_with gs)

-- ─── Refusal 7 for content that is given: whole fields of at most 4,074 bytes, at most a limit in all ───

-- No field is too long for a packet: with FID and length it has at most 4,080 bytes.
abbrev pub all_small : List (List ℕ) → Bool
all_small [] = true
all_small (f ∷ fs) = leb (length f) packet_content && all_small fs

abbrev pub shapely : Run → Bool
shapely r = ended r && all_small r.entries

unfoldable pub shaped : List ℕ → ℕ → Bool
shaped content limit = leb (length content) limit && shapely (run_of field content)

-- ─── Counted and found by FID ───

-- How often a field occurs, counted on from n.
unfoldable pub one_if : ℕ → ℕ → ℕ
one_if found fid = cond (eqb found fid) 1 0

abbrev pub counted : ℕ → List (List ℕ) → ℕ → ℕ
counted fid [] n = n
counted fid (f ∷ fs) n = counted fid fs (n + one_if (fid_of f) fid)

unfoldable pub count_of : ℕ → List ℕ → ℕ
count_of fid content = counted fid (fields_of content) 0

-- The first field with a FID, in a list of fields that starts at `at`.
abbrev pub first_in : ℕ → List (List ℕ) → ℕ → MaybeField
first_in at [] fid = None
first_in at (f ∷ fs) fid =
    cond (eqb (fid_of f) fid) (some_field (fid_of f) (at + 6) (length f - 6)) (first_in (at + length f) fs fid)

unfoldable pub first_of : List ℕ → ℕ → MaybeField
first_of content fid = first_in 0 (fields_of content) fid
