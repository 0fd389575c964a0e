-- What one walk over the fields keeps, for the code: nothing that is promised of a frame names it.
use Rattle.std.specs.Prelude.{ℕ, List, [], ◌∷◌, Bool, true, false, cond, ◌&&◌, ◌||◌, not, ltb, eqb}
use Rattle.fix.specs.Types.{Number}
use Rattle.fix.specs.declared.kinds.Kind.{Kind}
use Rattle.fix.specs.declared.tally.Tally.{Tally}
use Rattle.fix.specs.declared.tally.Walked.{Walked}
use Rattle.fix.specs.Text.{number_in, is_none, is_yes}
use Rattle.fix.specs.Kinds.{is_number_tag, first_tag, second_tag, is_resend, is_other}
use Rattle.fix.specs.Fields.{Given, cut_of, ended}
use Rattle.std.specs.Prelude.{Some, None}

-- 0, 1, or 2 for more.
unfoldable pub one_more : ℕ → Bool → ℕ
one_more n hit = cond hit (cond (eqb n 0) 1 2) n

-- The greater, and the lesser that isn't 0, where the field counts and is a number.
abbrev pub greater_with : ℕ → Number → ℕ
greater_with n None = n
greater_with n (Some m) = cond (ltb n m) m n

unfoldable pub greater : ℕ → Bool → Number → ℕ
greater n hit x = cond hit (greater_with n x) n

abbrev pub lesser_with : ℕ → Number → ℕ
lesser_with n None = n
lesser_with n (Some m) = cond (eqb m 0) n (cond (ltb m n) m n)

unfoldable pub lesser : ℕ → Bool → Number → ℕ
lesser n hit x = cond hit (lesser_with n x) n

-- 8, 9, 35, 10: the frame has them already.
unfoldable pub is_frame_tag : ℕ → Bool
is_frame_tag tag = eqb tag 8 || (eqb tag 9 || (eqb tag 35 || eqb tag 10))

-- Above every number: no last one but 0 was seen.
abbrev pub no_least : ℕ
no_least = 1000000000

abbrev pub no_tally : Tally
no_tally =
    record {
      odd = false;
      frame = false;
      sender = 0;
      target = 0;
      number = 0;
      time = 0;
      one = 0;
      two = 0;
      flag = 0;
      duplicate = false;
      fill = false;
      first = 0;
      last = no_least;
    }

-- One field more.
unfoldable pub tallied_with : Kind → Tally → ℕ → Number → Bool → Tally
tallied_with kind t tag x says =
    record {
      odd = t.odd || (is_number_tag kind tag && is_none x);
      frame = t.frame || is_frame_tag tag;
      sender = one_more t.sender (eqb tag 49);
      target = one_more t.target (eqb tag 56);
      number = one_more t.number (eqb tag 34);
      time = one_more t.time (eqb tag 52);
      one = one_more t.one (eqb tag (first_tag kind));
      two = one_more t.two (eqb tag (second_tag kind));
      flag = one_more t.flag (eqb tag 43);
      duplicate = t.duplicate || (eqb tag 43 && says);
      fill = t.fill || (eqb tag 123 && says);
      first = greater t.first (eqb tag 7) x;
      last = lesser t.last (eqb tag 16) x;
    }

abbrev pub tallied : Kind → Tally → Given → Tally
tallied kind t f = tallied_with kind t f.tag (number_in f.text) (is_yes f.text)

abbrev pub tallied_from : Kind → Tally → List Given → Tally
tallied_from kind t [] = t
tallied_from kind t (f ∷ fs) = tallied_from kind (tallied kind t f) fs

unfoldable pub walked_of : Kind → List ℕ → Walked
walked_of kind run = record { whole = ended (cut_of run); tally = tallied_from kind no_tally (cut_of run).fields }

-- ─── The checks, by the tally ───

unfoldable pub numbers_wrong : Kind → Tally → Bool
numbers_wrong kind t = cond t.odd true (is_resend kind && ltb t.last t.first)

unfoldable pub is_own_wrong : ℕ → ℕ → Bool
is_own_wrong tag n = cond (eqb tag 0) false (not (eqb n 1))

unfoldable pub session_wrong : Kind → Tally → Bool
session_wrong kind t =
    cond (is_other kind) false
    (cond (eqb t.sender 1)
    (cond (eqb t.target 1)
    (cond (eqb t.time 1)
    (cond (is_own_wrong (first_tag kind) t.one) true (is_own_wrong (second_tag kind) t.two))
    true)
    true)
    true)

unfoldable pub tags_wrong : Kind → Tally → Bool
tags_wrong kind t =
    cond t.frame true
    (cond (eqb t.number 1)
    (cond (ltb 1 t.flag) true (session_wrong kind t))
    true)
