-- What holds of fields written (01, "Message packet", demand 2 and row 7): both round trips, of one field and of any
-- number.
use Rattle.std.specs.Prelude.{ℕ, ◌+◌, ◌<◌, ◌≤◌, ◌≡◌, List, [], ◌∷◌, map, true, cond, ◌↔◌, length, get_or}
use Rattle.ftd.specs.Bytes.{Bytes}
use Rattle.ftd.specs.Runs.{run_of, ended}
use Rattle.ftd.specs.Fields.{field, fields_of, fid_of, bytes_of, field_with, Given, given_of, fields_with, content_with}
use Rattle.ftd.specs.Fields.{shaped, field_content, packet_content}
use Rattle.ftd.specs.Write.{fine, refuse, field_verdict}
use Rattle.ftd.specs.declared.refusal.Refusal.TheVariants.{FieldRun}

pub record FieldLaws : Type 0 where
  -- A field that is written is one field, with its FID and its bytes.
  pub back : (fid : ℕ) (bytes : List ℕ)
      → (run_of field (field_with fid bytes) ≡ record { entries = field_with fid bytes ∷ []; rest = [] })
      × (fid_of (field_with fid bytes) ≡ fid) × (bytes_of (field_with fid bytes) ≡ bytes)
  -- FID and length have room for it.
  pub in_bytes : (fid : ℕ) (bytes : List ℕ) → fid < 4294967296 → length bytes ≤ 65535 → Bytes bytes
      → Bytes (field_with fid bytes)
  -- Fields written one behind the other are exactly these, with their values.
  pub list_back : (gs : List Given) → (run_of field (content_with gs) ≡ record { entries = fields_with gs; rest = [] })
      × (map given_of (fields_of (content_with gs)) ≡ gs)
  -- Field i of a content, written from its FID and its bytes, is that field.
  pub again : (c : List ℕ) (i : ℕ) → Bytes c → i < length (fields_of c)
      → field_with (fid_of (get_or (fields_of c) i [])) (bytes_of (get_or (fields_of c) i [])) ≡ get_or (fields_of c) i []
  -- Content that is whole fields is its fields written, one behind the other.
  pub list-again : (c : List ℕ) → Bytes c → ended (run_of field c) ≡ true → content_with (map given_of (fields_of c)) ≡ c
  -- 7: a field that is written has shape exactly with at most 4,074 bytes, and six fewer than the limit at most.
  pub shape : (fid : ℕ) (bytes : List ℕ) (limit : ℕ)
      → (shaped (field_with fid bytes) limit ≡ true) ↔ ((length bytes ≤ field_content) × (length bytes + 6 ≤ limit))
  -- The writer refuses exactly what one packet does not hold as its content.
  pub verdict : (fid : ℕ) (bytes : List ℕ)
      → field_verdict bytes ≡ cond (shaped (field_with fid bytes) packet_content) fine (refuse FieldRun)
