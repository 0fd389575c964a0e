-- What the private functions of the tags promise; only their contracts use it.
use Rattle.std.specs.Prelude.{ℕ, ◌+◌, ◌-◌, ◌<◌, ◌≤◌, List, [], ◌∷◌, map, ◌≡◌, cond, length, get_or, drop, eqb}
use Rattle.ftd.specs.Runs.{run_of}
use Rattle.ftd.specs.Tags.{tag, tag_kind, KnownTag, known_tags, right_in, length_right, tag_place}
use Rattle.ftd.specs.declared.tags.TagPlace.{TagPlace}
use Rattle.std.specs.Prelude.{None}
use Rattle.ftd.specs.Types.{some_data}

-- The first row of a kind: its place in the list, or 8 where the list does not have it. From there on the list says the
-- same.
pub record KnownRow (kind row : ℕ) : Type 0 where
  pub low : row ≤ 8
  pub here : row < 8 → get_or (map (λ (k : KnownTag). k.kind) known_tags) row 0 ≡ kind
  pub same : (len : ℕ) → right_in (drop row known_tags) kind len ≡ length_right kind len

-- Where the data of the tag of a kind lies that is seen last.
unfoldable pub data_place : ℕ → ℕ → ℕ → ℕ → ℕ
data_place counted kind place at = cond (eqb kind counted) (at + 2) place

-- What a walk over all tags has seen of a kind whose data has a size: none of them, or one, and where its data lies.
pub record SeenTag (l : List ℕ) (kind size k place : ℕ) : Type 0 where
  pub none : k ≡ 0 → tag_place l kind ≡ None
  pub one : k ≡ 1 → (tag_place l kind ≡ some_data place size) × (place + size ≤ length l)

-- A list of tags that starts at `at`: of each its kind, and place and length of its data.
abbrev pub places : ℕ → List (List ℕ) → List TagPlace
places at [] = []
places at (t ∷ ts) = record { kind = tag_kind t; start = at + 2; len = length t - 2 } ∷ places (at + length t) ts

-- The tags from a place on.
unfoldable pub tags_from : List ℕ → ℕ → List TagPlace
tags_from extension at = places at (run_of tag (drop at extension)).entries
