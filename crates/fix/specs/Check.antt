-- What is wrong with a message's fields (02, No. 12): 28, a number; 29, a required tag missing, it or the flag twice.
use Rattle.std.specs.Prelude.{ℕ, ◌+◌, List, [], ◌∷◌, ◌++◌, Bool, true, false, cond, ◌&&◌, ◌||◌, not, ltb, eqb}
use Rattle.fix.specs.Types.{Number}
use Rattle.fix.specs.declared.kinds.Kind.{Kind}
use Rattle.fix.specs.Text.{number_in, is_none}
use Rattle.fix.specs.Kinds.{required, is_number_tag, is_resend}
use Rattle.fix.specs.Fields.{Given, tags_of}
use Rattle.std.specs.Prelude.{Some, None}

-- ─── 28: a number ───

-- A text that has to be a number and is none.
abbrev pub is_odd : Kind → Given → Bool
is_odd kind f = is_number_tag kind f.tag && is_none (number_in f.text)

abbrev pub any_odd : Kind → List Given → Bool
any_odd kind [] = false
any_odd kind (f ∷ fs) = is_odd kind f || any_odd kind fs

-- The numbers of all fields with a tag.
abbrev pub number_then : Number → List ℕ → List ℕ
number_then None l = l
number_then (Some n) l = n ∷ l

abbrev pub numbers_at : ℕ → List Given → List ℕ
numbers_at tag [] = []
numbers_at tag (f ∷ fs) = cond (eqb f.tag tag) (number_then (number_in f.text) (numbers_at tag fs)) (numbers_at tag fs)

-- A last number other than 0 is below some first one.
abbrev pub below_any : ℕ → List ℕ → Bool
below_any last [] = false
below_any last (first ∷ firsts) = ltb last first || below_any last firsts

abbrev pub any_below : List ℕ → List ℕ → Bool
any_below [] firsts = false
any_below (last ∷ lasts) firsts = (not (eqb last 0) && below_any last firsts) || any_below lasts firsts

-- A lost run is asked for by its first number (7) and a last (16) not below it, or 0 for all that follow.
unfoldable pub wrong_range : List Given → Bool
wrong_range fs = any_below (numbers_at 16 fs) (numbers_at 7 fs)

unfoldable pub wrong_numbers : Kind → List Given → Bool
wrong_numbers kind fs = cond (any_odd kind fs) true (is_resend kind && wrong_range fs)

-- ─── 29: required tags, and the flag ───

-- How often a tag occurs.
abbrev pub times : ℕ → List ℕ → ℕ
times tag [] = 0
times tag (t ∷ ts) = cond (eqb t tag) 1 0 + times tag ts

-- Some tag does not occur exactly once.
abbrev pub not_once : List ℕ → List ℕ → Bool
not_once [] tags = false
not_once (r ∷ rs) tags = not (eqb (times r tags) 1) || not_once rs tags

-- The tags of the whole frame: 8, 9, 35, those of the fields, 10.
abbrev pub frame_tags : List Given → List ℕ
frame_tags fs = 8 ∷ 9 ∷ 35 ∷ (tags_of fs ++ (10 ∷ []))

-- The flag is 43, PossDupFlag.
unfoldable pub wrong_tags : Kind → List Given → Bool
wrong_tags kind fs = cond (not_once (required kind) (frame_tags fs)) true (ltb 1 (times 43 (tags_of fs)))
