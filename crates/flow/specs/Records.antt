-- The layout of the records that are published in one call (02, No. 8; clause b): series, TID, content length (2, 4, 4
-- bytes) and content; and what such records, one behind the other, give.
use Rattle.std.specs.Prelude.{ℕ, ◌+◌, ◌<◌, ◌≡◌, List, [], ◌∷◌, ◌++◌, map, length, drop}
use Rattle.ftd.specs.Bytes.{be16_of, be32_of, bytes16, bytes32, Bytes, joined}
use Rattle.ftd.specs.Runs.{in_front, run_of}
use Rattle.flow.specs.declared.sender.Sender.{Sender}
use Rattle.flow.specs.declared.several.PublishedSeveral.{PublishedSeveral}
use Rattle.flow.specs.declared.several.PublishedSeveral.TheVariants.{End}
use Rattle.flow.specs.Serving.{publish_of}
use Rattle.flow.specs.Several.{Took, took, stop_or, record_form, publish_record, published_stops, publish_several_of}

-- What is given to one Publish.
pub record Publication : Type 0 where
  pub series : ℕ
  pub tid : ℕ
  pub content : List ℕ

unfoldable pub record_of : Publication → List ℕ
record_of r = bytes16 r.series ++ (bytes32 r.tid ++ (bytes32 (length r.content) ++ r.content))

-- Publish for one after the other, from a place on: it stops at the first refused, those before it being in; at the end
-- all bytes are taken.
abbrev pub publish_each : Sender → List ℕ → ℕ → List Publication → Took Sender PublishedSeveral
publish_each e log at [] = took e End log at
publish_each e log at (r ∷ rs) =
    let w = publish_of e r.series r.tid r.content log in
    let to = at + (10 + length r.content) in
    stop_or (published_stops at w.answer) (λ b. took w.end b w.bytes to)
    (publish_each w.end w.bytes to rs)

pub record RecordLayout : Type 0 where
  -- Ten bytes, and the content.
  pub size : (r : Publication) → length (record_of r) ≡ 10 + length r.content
  -- They are bytes, where the numbers fit their widths.
  pub bytes : (r : Publication) → r.series < 65536 → r.tid < 4294967296 → length r.content < 4294967296
      → Bytes r.content → Bytes (record_of r)
  -- And no other bytes are as many as their first ten say: they are the record of what stands in them.
  pub only : (x : List ℕ) → Bytes x → length x ≡ 10 + be32_of x 6
      → x ≡ record_of (record { series = be16_of x 0; tid = be32_of x 2; content = drop 10 x })
  -- At the front of any bytes it is cut off as one input, and what is behind it is cut as if it stood alone.
  pub one : (r : Publication) (behind : List ℕ)
      → run_of record_form (record_of r ++ behind) ≡ in_front (record_of r) (run_of record_form behind)
  -- Its single call is Publish.
  pub call : (e : Sender) (r : Publication) (log : List ℕ)
      → publish_record e (record_of r) log ≡ publish_of e r.series r.tid r.content log
  -- Records joined are as many inputs, and nothing is left.
  pub inputs : (rs : List Publication)
      → run_of record_form (joined (map record_of rs)) ≡ record { entries = map record_of rs; rest = [] }
  -- One call for them is Publish for one after the other.
  pub publishes : (e : Sender) (rs : List Publication) (log : List ℕ)
      → publish_several_of e (joined (map record_of rs)) log ≡ publish_each e log 0 rs
