-- The fields of a content as the code walks over them; only private contracts and the proofs use them.
use Rattle.std.specs.Prelude.{ℕ, ◌+◌, ◌-◌, List, [], ◌∷◌, length, drop}
use Rattle.ftd.specs.Runs.{run_of}
use Rattle.ftd.specs.Fields.{field, fid_of}
use Rattle.ftd.specs.declared.fields.FieldPlace.{FieldPlace}

-- A list of fields that starts at `at`: of each its FID, and place and length of the bytes without FID and length.
abbrev pub places : ℕ → List (List ℕ) → List FieldPlace
places at [] = []
places at (f ∷ fs) = record { fid = fid_of f; start = at + 6; len = length f - 6 } ∷ places (at + length f) fs

-- The fields from a place on.
unfoldable pub fields_from : List ℕ → ℕ → List FieldPlace
fields_from content at = places at (run_of field (drop at content)).entries
