-- A run of fields (002, 5.2.5, 5.2.6): TAG=TEXT and SOH, one behind the other. The text of a data field (5.1.5) has the
-- length that the field directly before it says, and may hold SOH; every other text goes up to the next SOH.
use Rattle.std.specs.Prelude.{ℕ, zero, suc, ◌+◌, List, [], ◌∷◌, map, Bool, false, cond, ◌||◌, length, get_or, take, drop, ltb, eqb}
use Rattle.ftd.specs.Bytes.{part}
use Rattle.fix.specs.Types.{Number}
use Rattle.fix.specs.declared.fields.Last.{Last}
use Rattle.fix.specs.Text.{soh, equals, until, number_in, plain_in, or_else, is_yes}
use Rattle.std.specs.Prelude.{Some, None}
use Rattle.fix.specs.Types.{MaybeFront, some_front}

-- ─── One field ───

-- The length tag of a data tag: Signature, SecureData, RawData, EncodedText; 0 for every other tag.
unfoldable pub length_tag : ℕ → ℕ
length_tag tag = cond (eqb tag 89) 93 (cond (eqb tag 91) 90 (cond (eqb tag 96) 95 (cond (eqb tag 355) 354 0)))

-- The field directly before: its tag, and the number that its text is, or 0.
abbrev pub last_of : ℕ → List ℕ → Last
last_of tag text = record { tag = tag; size = or_else 0 (number_in text) }

-- None stands before: no tag is 0.
abbrev pub no_last : Last
no_last = record { tag = 0; size = 0 }

-- How long the text is, of which `rest` is the front; 0: there is none.
unfoldable pub text_length : Last → ℕ → List ℕ → ℕ
text_length last tag rest =
    cond (eqb (length_tag tag) 0) (until soh rest) (cond (eqb (length_tag tag) last.tag) last.size 0)

-- A text of n bytes from `start` on, at least one, with SOH behind it.
unfoldable pub closed : ℕ → ℕ → ℕ → List ℕ → MaybeFront
closed tag start n l =
    cond (eqb n 0) None (cond (eqb (get_or l (start + n) 0) soh) (some_front tag start n) None)

-- e bytes stand before the first `=`: a plain number.
abbrev pub tagged : Last → List ℕ → ℕ → Number → MaybeFront
tagged last l e None = None
tagged last l e (Some tag) = closed tag (e + 1) (text_length last tag (drop (e + 1) l)) l

-- What stands at the front of some bytes: a field, its tag, and place and length of its text; or none.
unfoldable pub front_of : Last → List ℕ → MaybeFront
front_of last l =
    cond (ltb (until equals l) (length l)) (tagged last l (until equals l) (plain_in (take (until equals l) l))) None

-- ─── The run ───

-- A field: how many bytes its tag and `=` have, the tag, and the text.
pub record Given : Type 0 where
  pub head : ℕ
  pub tag : ℕ
  pub text : List ℕ

-- Its bytes: with SOH.
abbrev pub size_of : Given → ℕ
size_of f = f.head + length f.text + 1

-- Bytes as a run: the fields, up to the first place where none stands, and what is left there.
pub record Cut : Type 0 where
  pub fields : List Given
  pub rest : List ℕ

abbrev pub in_front : Given → Cut → Cut
in_front f r = record { fields = f ∷ r.fields; rest = r.rest }

abbrev pub field_of : ℕ → ℕ → ℕ → List ℕ → Given
field_of tag start n l = record { head = start; tag = tag; text = part l start n }

-- One field is cut off, and `more` goes on behind it.
abbrev pub cut_off : (Last → List ℕ → Cut) → List ℕ → MaybeFront → Cut
cut_off more l None = record { fields = []; rest = l }
cut_off more l (Some found) =
    in_front (field_of found.tag found.start found.len l) (more (last_of found.tag (part l found.start found.len)) (drop (found.start + found.len + 1) l))

-- At most `most` fields.
abbrev pub cut_in : ℕ → Last → List ℕ → Cut
cut_in zero last l = record { fields = []; rest = l }
cut_in (suc most) last l = cut_off (cut_in most) l (front_of last l)

-- A field has a byte at least, so there are no more of them than bytes.
unfoldable pub cut_from : Last → List ℕ → Cut
cut_from last l = cut_in (length l) last l

-- The cut of a run.
abbrev pub cut_of : List ℕ → Cut
cut_of run = cut_from no_last run

-- Nothing is left behind the fields.
abbrev pub ended : Cut → Bool
ended c = eqb (length c.rest) 0

abbrev pub fields_of : List ℕ → List Given
fields_of run = (cut_of run).fields

unfoldable pub is_whole : List ℕ → Bool
is_whole run = ended (cut_of run)

-- ─── Field i, and the first field with a tag, in a list of fields that starts at `at` ───

-- `some_front tag start len`: the place of the text.
abbrev pub place_in : ℕ → List Given → ℕ → MaybeFront
place_in at [] i = None
place_in at (f ∷ fs) zero = some_front f.tag (at + f.head) (length f.text)
place_in at (f ∷ fs) (suc i) = place_in (at + size_of f) fs i

unfoldable pub place_of : List ℕ → ℕ → MaybeFront
place_of run i = place_in 0 (fields_of run) i

-- The text of field i, a part of the run; no bytes where there is no such field.
abbrev pub part_at : List ℕ → MaybeFront → List ℕ
part_at run None = []
part_at run (Some found) = part run found.start found.len

unfoldable pub text_of : List ℕ → ℕ → List ℕ
text_of run i = part_at run (place_of run i)

abbrev pub first_in : ℕ → List Given → ℕ → MaybeFront
first_in at [] tag = None
first_in at (f ∷ fs) tag =
    cond (eqb f.tag tag) (some_front f.tag (at + f.head) (length f.text)) (first_in (at + size_of f) fs tag)

unfoldable pub first_of : List ℕ → ℕ → MaybeFront
first_of run tag = first_in 0 (fields_of run) tag

-- ─── What fields say ───

-- The tags, in order.
abbrev pub tags_of : List Given → List ℕ
tags_of fs = map (λ (f : Given). f.tag) fs

-- The number of the first field with a tag; 0 where there is none, or no number.
abbrev pub number_at : ℕ → List Given → ℕ
number_at tag [] = 0
number_at tag (f ∷ fs) = cond (eqb f.tag tag) (or_else 0 (number_in f.text)) (number_at tag fs)

-- Some field with a tag says Y.
abbrev pub says_yes : ℕ → List Given → Bool
says_yes tag [] = false
says_yes tag (f ∷ fs) = cond (eqb f.tag tag) (is_yes f.text) false || says_yes tag fs
