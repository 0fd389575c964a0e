-- The extension of a packet (4.1; 01, "Packet"): a run of tags, each a kind byte, a length byte and that many bytes of
-- data.
pub mod Helpers
use Rattle.std.specs.Prelude.{ℕ, ◌+◌, ◌-◌, ◌≤◌, List, [], ◌∷◌, map, Bool, true, false, cond, ◌&&◌, length, get_or, leb, eqb}
use Rattle.ftd.specs.Bytes.{be16_of, be32_of, bytes16, bytes32, joined}
use Rattle.ftd.specs.Runs.{Form, Run, run_of, ended}
use Rattle.ftd.specs.Types.{TradeDate}
use Rattle.ftd.specs.Types.{PacketPlace}
use Rattle.std.specs.Prelude.{Some, None}
use Rattle.ftd.specs.Types.{MaybeData, some_data, MaybeTags, some_tags}

-- ─── The form of a tag ───

unfoldable pub tag : Form
tag = record { head = 2; follow = λ l. get_or l 1 0 }

-- The tags of an extension, each with its two bytes of head.
abbrev pub tags_of : List ℕ → List (List ℕ)
tags_of extension = (run_of tag extension).entries

abbrev pub tag_kind : List ℕ → ℕ
tag_kind t = get_or t 0 0

abbrev pub tag_length : List ℕ → ℕ
tag_length t = get_or t 1 0

-- ─── The known tags ───

pub record KnownTag : Type 0 where
  pub kind : ℕ
  pub size : ℕ

abbrev pub known_tag : ℕ → ℕ → KnownTag
known_tag k n = record { kind = k; size = n }

-- Kinds and lengths of their data, as the papers list them (02, No. 10: 0x70).
unfoldable pub known_tags : List KnownTag
known_tags =
    known_tag 0x00 0
    ∷ known_tag 0x01 4
    ∷ known_tag 0x02 1
    ∷ known_tag 0x03 1
    ∷ known_tag 0x04 0
    ∷ known_tag 0x05 4
    ∷ known_tag 0x06 2
    ∷ known_tag 0x70 2
    ∷ []

-- The length is the one that the list has for the kind; of a kind that it does not have each length is right.
abbrev pub right_in : List KnownTag → ℕ → ℕ → Bool
right_in [] kind len = true
right_in (k ∷ ks) kind len = cond (eqb k.kind kind) (eqb k.size len) (right_in ks kind len)

unfoldable pub length_right : ℕ → ℕ → Bool
length_right kind len = right_in known_tags kind len

-- ─── Refusal 2: the extension check ───

abbrev pub all_right : List (List ℕ) → Bool
all_right [] = true
all_right (t ∷ ts) = length_right (tag_kind t) (tag_length t) && all_right ts

-- One more where the kind is the one that is counted.
unfoldable pub count_kind : ℕ → ℕ → ℕ → ℕ
count_kind counted kind n = cond (eqb kind counted) (n + 1) n

-- How often a kind stands among the tags, counted on from n.
abbrev pub times : ℕ → List (List ℕ) → ℕ → ℕ
times counted [] n = n
times counted (t ∷ ts) n = times counted ts (count_kind counted (tag_kind t) n)

-- The tags end with the extension, the known ones have their lengths, and neither 0x05, the trade date, nor 0x70, the
-- packet's place, stands twice.
abbrev pub good_run : Run → ℕ → ℕ → Bool
good_run r n m =
    ended r && (all_right r.entries && (leb (times 0x05 r.entries n) 1 && leb (times 0x70 r.entries m) 1))

unfoldable pub good_tags : List ℕ → Bool
good_tags extension = good_run (run_of tag extension) 0 0

-- ─── The tags that have a meaning here ───

-- The place of the data of the first tag of a kind, in a list of tags that starts at `at`.
abbrev pub tag_in : ℕ → List (List ℕ) → ℕ → MaybeData
tag_in at [] kind = None
tag_in at (t ∷ ts) kind = cond (eqb (tag_kind t) kind) (some_data (at + 2) (length t - 2)) (tag_in (at + length t) ts kind)

unfoldable pub tag_place : List ℕ → ℕ → MaybeData
tag_place extension kind = tag_in 0 (tags_of extension) kind

-- The data lies inside the extension.
abbrev pub TagInside : List ℕ → MaybeData → Type 0
TagInside extension None = Unit
TagInside extension (Some found) = found.start + found.len ≤ length extension

-- The trade date (01: mark): tag 0x05, as a number of four bytes; none where the extension has no such tag.
abbrev pub date_at : List ℕ → MaybeData → TradeDate
date_at extension None = None
date_at extension (Some found) = cond (eqb found.len 4) (Some (be32_of extension found.start)) None

unfoldable pub trade_date_of : List ℕ → TradeDate
trade_date_of extension = date_at extension (tag_place extension 0x05)

-- The packet's place in its message: tag 0x70, as a number of two bytes; none where the extension has no such tag.
abbrev pub place_at : List ℕ → MaybeData → PacketPlace
place_at extension None = None
place_at extension (Some found) = cond (eqb found.len 2) (Some (be16_of extension found.start)) None

unfoldable pub packet_place_of : List ℕ → PacketPlace
packet_place_of extension = place_at extension (tag_place extension 0x70)

-- The extension check, the trade date and the packet's place as one answer.
unfoldable pub tag_run_of : List ℕ → MaybeTags
tag_run_of extension = cond (good_tags extension) (some_tags (trade_date_of extension) (packet_place_of extension)) None

-- The keep-alive tag 0x04 is there.
abbrev pub is_there : MaybeData → Bool
is_there None = false
is_there (Some found) = true

unfoldable pub keep_alive_of : List ℕ → Bool
keep_alive_of extension = is_there (tag_place extension 0x04)

-- ─── The tags that an end writes ───

pub record Tag : Type 0 where
  pub kind : ℕ
  pub value : List ℕ

abbrev pub tag_bytes : Tag → List ℕ
tag_bytes t = t.kind ∷ length t.value ∷ t.value

abbrev pub extension_bytes : List Tag → List ℕ
extension_bytes ts = joined (map tag_bytes ts)

-- The trade date as the only tag, or none.
abbrev pub tags_for : TradeDate → List Tag
tags_for None = []
tags_for (Some d) = record { kind = 0x05; value = bytes32 d } ∷ []

-- The packet's place.
abbrev pub place_tag : ℕ → Tag
place_tag j = record { kind = 0x70; value = bytes16 j }
