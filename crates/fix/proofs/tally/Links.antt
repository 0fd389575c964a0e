-- The checks by the tally of all fields are the checks of the fields (02, No. 12). Assumes nothing.
use Prim.Native.Nat.{ℕ, ◌+◌}
use mathlib.Core.Path.{◌≡◌, refl, sym, ap, ◌∙◌}
use mathlib.Core.List.{List, [], ◌∷◌, ◌++◌}
use mathlib.Core.Bool.{Bool, true, false, cond, ◌&&◌, ◌||◌, not}
use native.Mathlib.Omega.{arith}
use borrow.Author.Tests.{eq-eqb, ne_eqb, eqb-true, eqb-false}
use lib.Dec.{ltb, eqb}
use Rattle.fix.specs.declared.kinds.Kind.{Kind}
use Rattle.fix.specs.declared.kinds.Kind.TheVariants.{Heartbeat, TestRequest, ResendRequest, SequenceReset}
use Rattle.fix.specs.declared.kinds.Kind.TheVariants.{Logout, Logon, Other}
use Rattle.fix.specs.declared.tally.Tally.{Tally}
use Rattle.fix.specs.Text.{number_in, is_yes}
use Rattle.fix.specs.Kinds.{session, required, is_resend, is_other, first_tag, second_tag}
use Rattle.fix.specs.Fields.{Given, tags_of, says_yes}
use Rattle.fix.specs.Check.{is_odd, any_odd, wrong_range, numbers_at, wrong_numbers, times, not_once, frame_tags, wrong_tags}
use Rattle.fix.specs.Tally.{one_more, greater, lesser, is_frame_tag, no_least, no_tally, tallied_with, tallied}
use Rattle.fix.specs.Tally.{tallied_from, numbers_wrong, is_own_wrong, session_wrong, tags_wrong}
use Rattle.fix.proofs.tally.Folds.{tally-fold, any-fold, count-one, count-more, met, met_next}
use Rattle.fix.proofs.tally.Ranges.{least, greatest-fold, least-fold, range-seen}

-- ─── 28: a number ───

module _ (kind : Kind) (t : Tally) (f : Given) where
  odd-goes : (tallied kind t f).odd ≡ (t.odd || is_odd kind f)
  unfolding tallied_with
  odd-goes = refl

  first_goes : (tallied kind t f).first ≡ greater t.first (eqb f.tag 7) (number_in f.text)
  unfolding tallied_with
  first_goes = refl

  last_goes : (tallied kind t f).last ≡ lesser t.last (eqb f.tag 16) (number_in f.text)
  unfolding tallied_with
  last_goes = refl

module _ (kind : Kind) (fs : List Given) where
  odd-seen : (tallied_from kind no_tally fs).odd ≡ any_odd kind fs
  odd-seen =
      tally-fold (λ t. t.odd) (λ (b : Bool) (f : Given). b || is_odd kind f) kind (λ t f. odd-goes kind t f) no_tally fs
      ∙ any-fold (λ f. is_odd kind f) (any_odd kind) refl (λ f fs. refl) false fs

  range-kept : ltb (tallied_from kind no_tally fs).last (tallied_from kind no_tally fs).first ≡ wrong_range fs
  unfolding wrong_range
  range-kept =
      ap (λ n. ltb n (tallied_from kind no_tally fs).first)
      (tally-fold (λ t. t.last) (λ (n : ℕ) (f : Given). lesser n (eqb f.tag 16) (number_in f.text)) kind
      (λ t f. last_goes kind t f) no_tally fs
      ∙ least-fold no_tally.last 16 fs)
      ∙ ap (λ n. ltb (least no_least (numbers_at 16 fs)) n)
      (tally-fold (λ t. t.first) (λ (n : ℕ) (f : Given). greater n (eqb f.tag 7) (number_in f.text)) kind
      (λ t f. first_goes kind t f) no_tally fs
      ∙ greatest-fold 0 7 fs)
      ∙ range-seen fs

  pub links-numbers : numbers_wrong kind (tallied_from kind no_tally fs) ≡ wrong_numbers kind fs
  unfolding numbers_wrong wrong_numbers
  links-numbers =
      ap (λ b. cond b true (is_resend kind && ltb (tallied_from kind no_tally fs).last (tallied_from kind no_tally fs).first))
      odd-seen
      ∙ ap (λ b. cond (any_odd kind fs) true (is_resend kind && b)) range-kept

-- ─── The flags ───

module _ (kind : Kind) (t : Tally) (f : Given) where
  duplicate-goes : (tallied kind t f).duplicate ≡ (t.duplicate || (eqb f.tag 43 && is_yes f.text))
  unfolding tallied_with
  duplicate-goes = refl

  fill-goes : (tallied kind t f).fill ≡ (t.fill || (eqb f.tag 123 && is_yes f.text))
  unfolding tallied_with
  fill-goes = refl

says-next : (k : ℕ) (f : Given) (fs : List Given) → says_yes k (f ∷ fs) ≡ ((eqb f.tag k && is_yes f.text) || says_yes k fs)
says-next k f fs = go (eqb f.tag k)
  where
    go : (b : Bool) → (cond b (is_yes f.text) false || says_yes k fs) ≡ ((b && is_yes f.text) || says_yes k fs)
    go true = refl
    go false = refl

module _ (kind : Kind) (fs : List Given) where
  pub links-duplicate : (tallied_from kind no_tally fs).duplicate ≡ says_yes 43 fs
  links-duplicate =
      tally-fold (λ t. t.duplicate) (λ (b : Bool) (f : Given). b || (eqb f.tag 43 && is_yes f.text)) kind
      (λ t f. duplicate-goes kind t f) no_tally fs
      ∙ any-fold (λ f. eqb f.tag 43 && is_yes f.text) (says_yes 43) refl (λ f fs. says-next 43 f fs) false fs

  pub links-fill : (tallied_from kind no_tally fs).fill ≡ says_yes 123 fs
  links-fill =
      tally-fold (λ t. t.fill) (λ (b : Bool) (f : Given). b || (eqb f.tag 123 && is_yes f.text)) kind
      (λ t f. fill-goes kind t f) no_tally fs
      ∙ any-fold (λ f. eqb f.tag 123 && is_yes f.text) (says_yes 123) refl (λ f fs. says-next 123 f fs) false fs

-- ─── 29: tags ───

module _ (kind : Kind) (t : Tally) (f : Given) where
  frame-goes : (tallied kind t f).frame ≡ (t.frame || is_frame_tag f.tag)
  unfolding tallied_with
  frame-goes = refl

  sender-goes : (tallied kind t f).sender ≡ one_more t.sender (eqb f.tag 49)
  unfolding tallied_with
  sender-goes = refl

  target-goes : (tallied kind t f).target ≡ one_more t.target (eqb f.tag 56)
  unfolding tallied_with
  target-goes = refl

  number-goes : (tallied kind t f).number ≡ one_more t.number (eqb f.tag 34)
  unfolding tallied_with
  number-goes = refl

  time-goes : (tallied kind t f).time ≡ one_more t.time (eqb f.tag 52)
  unfolding tallied_with
  time-goes = refl

  one-goes : (tallied kind t f).one ≡ one_more t.one (eqb f.tag (first_tag kind))
  unfolding tallied_with
  one-goes = refl

  two-goes : (tallied kind t f).two ≡ one_more t.two (eqb f.tag (second_tag kind))
  unfolding tallied_with
  two-goes = refl

  flag-goes : (tallied kind t f).flag ≡ one_more t.flag (eqb f.tag 43)
  unfolding tallied_with
  flag-goes = refl

-- One of the four that the frame has already.
swap : (a b c d : Bool) → ((a || b) || (c || d)) ≡ ((a || c) || (b || d))
swap true b c d = refl
swap false true true d = refl
swap false true false d = refl
swap false false c d = refl

abbrev four_met : List ℕ → Bool
four_met tags = met 8 tags || (met 9 tags || (met 35 tags || met 10 tags))

four-next : (f : Given) (fs : List Given) → four_met (tags_of (f ∷ fs)) ≡ (is_frame_tag f.tag || four_met (tags_of fs))
unfolding is_frame_tag
four-next f fs =
    let t = f.tag in
    let ts = tags_of fs in
    rw (met_next 8 t ts, met_next 9 t ts, met_next 35 t ts, met_next 10 t ts)
    (sym (
    swap (eqb t 8) (eqb t 9 || (eqb t 35 || eqb t 10)) (met 8 ts) (met 9 ts || (met 35 ts || met 10 ts))
    ∙ ap (λ b. (eqb t 8 || met 8 ts) || b)
    (swap (eqb t 9) (eqb t 35 || eqb t 10) (met 9 ts) (met 35 ts || met 10 ts)
    ∙ ap (λ b. (eqb t 9 || met 9 ts) || b) (swap (eqb t 35) (eqb t 10) (met 35 ts) (met 10 ts)))
    ))

frame-seen : (kind : Kind) (fs : List Given) → (tallied_from kind no_tally fs).frame ≡ four_met (tags_of fs)
frame-seen kind fs =
    tally-fold (λ t. t.frame) (λ (b : Bool) (f : Given). b || is_frame_tag f.tag) kind (λ t f. frame-goes kind t f)
    no_tally fs
    ∙ any-fold (λ f. is_frame_tag f.tag) (λ fs. four_met (tags_of fs)) refl (λ f fs. four-next f fs) false fs

-- How often a tag stands in the whole frame.
times-append : (k : ℕ) (a b : List ℕ) → times k (a ++ b) ≡ times k a + times k b
times-append k [] b = omega arith
times-append k (x ∷ a) b =
    ap (λ n. cond (eqb x k) 1 0 + n) (times-append k a b) ∙ more (cond (eqb x k) 1 0) (times k a) (times k b)
  where
    more : (x y z : ℕ) → x + (y + z) ≡ x + y + z
    more x y z = omega arith

pub in_frame : (k : ℕ) (fs : List Given) → times k (frame_tags fs)
    ≡ cond (eqb 8 k) 1 0 + (cond (eqb 9 k) 1 0 + (cond (eqb 35 k) 1 0 + (times k (tags_of fs) + (cond (eqb 10 k) 1 0 + 0))))
in_frame k fs = rw (times-append k (tags_of fs) (10 ∷ []))

-- A tag of the frame is there once where no field has it; another as often as fields have it.
one-more-zero : (n m : ℕ) → n ≡ 1 + m → eqb n 1 ≡ eqb m 0
one-more-zero n m h = go (eqb m 0) refl
  where
    go : (b : Bool) → eqb m 0 ≡ b → eqb n 1 ≡ b
    go true e = let z : m ≡ 0 = eqb-true m 0 e in eq-eqb n 1 (omega (arith, h, z))
    go false e = ne_eqb n 1 (λ z. eqb-false m 0 e (omega (arith, h, z)))

module _ (fs : List Given) where
  in-8 : not (eqb (times 8 (frame_tags fs)) 1) ≡ met 8 (tags_of fs)
  in-8 = ap not (one-more-zero (times 8 (frame_tags fs)) (times 8 (tags_of fs)) (in_frame 8 fs ∙ omega arith))

  in-9 : not (eqb (times 9 (frame_tags fs)) 1) ≡ met 9 (tags_of fs)
  in-9 = ap not (one-more-zero (times 9 (frame_tags fs)) (times 9 (tags_of fs)) (in_frame 9 fs ∙ omega arith))

  in-35 : not (eqb (times 35 (frame_tags fs)) 1) ≡ met 35 (tags_of fs)
  in-35 = ap not (one-more-zero (times 35 (frame_tags fs)) (times 35 (tags_of fs)) (in_frame 35 fs ∙ omega arith))

  in-10 : not (eqb (times 10 (frame_tags fs)) 1) ≡ met 10 (tags_of fs)
  in-10 = ap not (one-more-zero (times 10 (frame_tags fs)) (times 10 (tags_of fs)) (in_frame 10 fs ∙ omega arith))

  in-34 : times 34 (frame_tags fs) ≡ times 34 (tags_of fs)
  in-34 = in_frame 34 fs ∙ omega arith

  in-49 : times 49 (frame_tags fs) ≡ times 49 (tags_of fs)
  in-49 = in_frame 49 fs ∙ omega arith

  in-56 : times 56 (frame_tags fs) ≡ times 56 (tags_of fs)
  in-56 = in_frame 56 fs ∙ omega arith

  in-52 : times 52 (frame_tags fs) ≡ times 52 (tags_of fs)
  in-52 = in_frame 52 fs ∙ omega arith

  in-112 : times 112 (frame_tags fs) ≡ times 112 (tags_of fs)
  in-112 = in_frame 112 fs ∙ omega arith

  in-7 : times 7 (frame_tags fs) ≡ times 7 (tags_of fs)
  in-7 = in_frame 7 fs ∙ omega arith

  in-16 : times 16 (frame_tags fs) ≡ times 16 (tags_of fs)
  in-16 = in_frame 16 fs ∙ omega arith

  in-36 : times 36 (frame_tags fs) ≡ times 36 (tags_of fs)
  in-36 = in_frame 36 fs ∙ omega arith

  in-98 : times 98 (frame_tags fs) ≡ times 98 (tags_of fs)
  in-98 = in_frame 98 fs ∙ omega arith

  in-108 : times 108 (frame_tags fs) ≡ times 108 (tags_of fs)
  in-108 = in_frame 108 fs ∙ omega arith

-- ─── 29: all together ───

-- The answer by its tests: none of the six types, a tag of the frame, exactly one 34, more than one 43, exactly one 49,
-- 56 and 52, and what is wrong with the type's own.
abbrev verdict : Bool → Bool → Bool → Bool → Bool → Bool → Bool → Bool → Bool
verdict other frame n g s u m own =
    cond frame true (cond n (cond g true (cond other false (cond s (cond u (cond m own true) true) true))) true)

tags-verdict : (kind : Kind) (t : Tally) → tags_wrong kind t
    ≡ verdict (is_other kind) t.frame (eqb t.number 1) (ltb 1 t.flag) (eqb t.sender 1) (eqb t.target 1)
    (eqb t.time 1) (cond (is_own_wrong (first_tag kind) t.one) true (is_own_wrong (second_tag kind) t.two))
unfolding tags_wrong session_wrong
tags-verdict kind t = refl

verdict-same : (other : Bool) {f f' n n' g g' s s' u u' m m' o o' : Bool} → f ≡ f' → n ≡ n' → g ≡ g' → s ≡ s' → u ≡ u'
    → m ≡ m' → o ≡ o' → verdict other f n g s u m o ≡ verdict other f' n' g' s' u' m' o'
verdict-same other a b c d e f g = rw (a, b, c, d, e, f, g)

-- What is wrong with the type's own, by how often their tags occur.
abbrev own_wrong : Kind → List ℕ → Bool
own_wrong kind tags =
    cond (is_own_wrong (first_tag kind) (times (first_tag kind) tags)) true
    (is_own_wrong (second_tag kind) (times (second_tag kind) tags))

module _ (kind : Kind) (fs : List Given) where
  own_first : is_own_wrong (first_tag kind) (tallied_from kind no_tally fs).one
      ≡ is_own_wrong (first_tag kind) (times (first_tag kind) (tags_of fs))
  unfolding is_own_wrong
  own_first =
      ap (λ b. cond (eqb (first_tag kind) 0) false (not b))
      (count-one (λ t. t.one) (first_tag kind) kind (λ t f. one-goes kind t f) no_tally refl fs)

  own-second : is_own_wrong (second_tag kind) (tallied_from kind no_tally fs).two
      ≡ is_own_wrong (second_tag kind) (times (second_tag kind) (tags_of fs))
  unfolding is_own_wrong
  own-second =
      ap (λ b. cond (eqb (second_tag kind) 0) false (not b))
      (count-one (λ t. t.two) (second_tag kind) kind (λ t f. two-goes kind t f) no_tally refl fs)

  own-seen : cond (is_own_wrong (first_tag kind) (tallied_from kind no_tally fs).one) true
      (is_own_wrong (second_tag kind) (tallied_from kind no_tally fs).two) ≡ own_wrong kind (tags_of fs)
  own-seen =
      ap (λ b. cond b true (is_own_wrong (second_tag kind) (tallied_from kind no_tally fs).two)) own_first
      ∙ ap (λ b. cond (is_own_wrong (first_tag kind) (times (first_tag kind) (tags_of fs))) true b) own-second

  tally-verdict : tags_wrong kind (tallied_from kind no_tally fs)
      ≡ verdict (is_other kind) (four_met (tags_of fs)) (eqb (times 34 (tags_of fs)) 1) (ltb 1 (times 43 (tags_of fs)))
      (eqb (times 49 (tags_of fs)) 1) (eqb (times 56 (tags_of fs)) 1) (eqb (times 52 (tags_of fs)) 1)
      (own_wrong kind (tags_of fs))
  tally-verdict =
      tags-verdict kind (tallied_from kind no_tally fs)
      ∙ verdict-same (is_other kind) (frame-seen kind fs)
      (count-one (λ t. t.number) 34 kind (λ t f. number-goes kind t f) no_tally refl fs)
      (count-more (λ t. t.flag) 43 kind (λ t f. flag-goes kind t f) no_tally refl fs)
      (count-one (λ t. t.sender) 49 kind (λ t f. sender-goes kind t f) no_tally refl fs)
      (count-one (λ t. t.target) 56 kind (λ t f. target-goes kind t f) no_tally refl fs)
      (count-one (λ t. t.time) 52 kind (λ t f. time-goes kind t f) no_tally refl fs)
      own-seen

-- The required tags, one by one.
or_same : {a a' b b' : Bool} → a ≡ a' → b ≡ b' → (a || b) ≡ (a' || b')
or_same p q = rw (p, q)

abbrev not_one : ℕ → List ℕ → Bool
not_one k tags = not (eqb (times k tags) 1)

module _ (fs : List Given) where
  one_tag : (k : ℕ) → times k (frame_tags fs) ≡ times k (tags_of fs) → not_one k (frame_tags fs) ≡ not_one k (tags_of fs)
  one_tag k e = ap (λ n. not (eqb n 1)) e

  session-once : (rest : List ℕ) → not_once (session ++ rest) (frame_tags fs)
      ≡ (met 8 (tags_of fs) || (met 9 (tags_of fs) || (met 35 (tags_of fs) || (not_one 49 (tags_of fs)
      || (not_one 56 (tags_of fs) || (not_one 34 (tags_of fs) || (not_one 52 (tags_of fs)
      || (met 10 (tags_of fs) || not_once rest (frame_tags fs)))))))))
  session-once rest =
      or_same (in-8 fs)
      (or_same (in-9 fs)
      (or_same (in-35 fs)
      (or_same (one_tag 49 (in-49 fs))
      (or_same (one_tag 56 (in-56 fs))
      (or_same (one_tag 34 (in-34 fs)) (or_same (one_tag 52 (in-52 fs)) (or_same (in-10 fs) refl)))))))

  other-once : not_once (required Other) (frame_tags fs)
      ≡ (met 8 (tags_of fs) || (met 9 (tags_of fs) || (met 35 (tags_of fs) || (not_one 34 (tags_of fs)
      || (met 10 (tags_of fs) || false)))))
  other-once =
      or_same (in-8 fs)
      (or_same (in-9 fs) (or_same (in-35 fs) (or_same (one_tag 34 (in-34 fs)) (or_same (in-10 fs) refl))))

-- The answer by its tests, in the order of the code and in that of the list.
both_true : (g : Bool) → cond g true true ≡ true
both_true true = refl
both_true false = refl

itself : (g : Bool) → cond g true false ≡ g
itself true = refl
itself false = refl

all_true : (d n g : Bool) → cond d true (cond n (cond g true true) true) ≡ true
all_true true n g = refl
all_true false true g = both_true g
all_true false false g = refl

session-order : (a b c d s u n m g own : Bool) → verdict false (a || (b || (c || d))) n g s u m own
    ≡ cond (a || (b || (c || (not s || (not u || (not n || (not m || (d || own)))))))) true g
session-order true b c d s u n m g own = refl
session-order false true c d s u n m g own = refl
session-order false false true d s u n m g own = refl
session-order false false false d false u n m g own = all_true d n g
session-order false false false d true false n m g own = all_true d n g
session-order false false false d true true false m g own = both_true d
session-order false false false d true true true false g own = all_true d true g
session-order false false false true true true true true g own = refl
session-order false false false false true true true true g true = both_true g
session-order false false false false true true true true g false = itself g

other-order : (a b c d n g s u m own : Bool) → verdict true (a || (b || (c || d))) n g s u m own
    ≡ cond (a || (b || (c || (not n || (d || false))))) true g
other-order true b c d n g s u m own = refl
other-order false true c d n g s u m own = refl
other-order false false true d n g s u m own = refl
other-order false false false d false g s u m own = both_true d
other-order false false false true true g s u m own = refl
other-order false false false false true g s u m own = itself g

-- A type of the six.
session-links : (kind : Kind) (rest : List ℕ) (fs : List Given) → is_other kind ≡ false → required kind ≡ session ++ rest
    → own_wrong kind (tags_of fs) ≡ not_once rest (frame_tags fs)
    → tags_wrong kind (tallied_from kind no_tally fs) ≡ wrong_tags kind fs
unfolding wrong_tags
session-links kind rest fs o r w =
    let ts = tags_of fs in
    tally-verdict kind fs
    ∙ ap
    (λ b. verdict b (four_met ts) (eqb (times 34 ts) 1) (ltb 1 (times 43 ts)) (eqb (times 49 ts) 1) (eqb (times 56 ts) 1)
    (eqb (times 52 ts) 1) (own_wrong kind ts)) o
    ∙ session-order (met 8 ts) (met 9 ts) (met 35 ts) (met 10 ts) (eqb (times 49 ts) 1) (eqb (times 56 ts) 1)
    (eqb (times 34 ts) 1) (eqb (times 52 ts) 1) (ltb 1 (times 43 ts)) (own_wrong kind ts)
    ∙ ap (λ b. cond (met 8 ts || (met 9 ts || (met 35 ts || (not_one 49 ts || (not_one 56 ts || (not_one 34 ts
    || (not_one 52 ts || (met 10 ts || b)))))))) true (ltb 1 (times 43 ts))) w
    ∙ sym (
    ap (λ l. cond (not_once l (frame_tags fs)) true (ltb 1 (times 43 ts))) r
    ∙ ap (λ b. cond b true (ltb 1 (times 43 ts))) (session-once fs rest)
    )

-- Two of its own.
two-own : (x y : Bool) → cond x true y ≡ (x || (y || false))
two-own true y = refl
two-own false true = refl
two-own false false = refl

module _ (fs : List Given) where
  test-own : own_wrong TestRequest (tags_of fs) ≡ not_once (112 ∷ []) (frame_tags fs)
  unfolding is_own_wrong
  test-own = two-own (not_one 112 (tags_of fs)) false ∙ or_same (sym (one_tag fs 112 (in-112 fs))) refl

  resend-own : own_wrong ResendRequest (tags_of fs) ≡ not_once (7 ∷ 16 ∷ []) (frame_tags fs)
  unfolding is_own_wrong
  resend-own =
      two-own (not_one 7 (tags_of fs)) (not_one 16 (tags_of fs))
      ∙ or_same (sym (one_tag fs 7 (in-7 fs))) (or_same (sym (one_tag fs 16 (in-16 fs))) refl)

  reset-own : own_wrong SequenceReset (tags_of fs) ≡ not_once (36 ∷ []) (frame_tags fs)
  unfolding is_own_wrong
  reset-own = two-own (not_one 36 (tags_of fs)) false ∙ or_same (sym (one_tag fs 36 (in-36 fs))) refl

  logon-own : own_wrong Logon (tags_of fs) ≡ not_once (98 ∷ 108 ∷ []) (frame_tags fs)
  unfolding is_own_wrong
  logon-own =
      two-own (not_one 98 (tags_of fs)) (not_one 108 (tags_of fs))
      ∙ or_same (sym (one_tag fs 98 (in-98 fs))) (or_same (sym (one_tag fs 108 (in-108 fs))) refl)

  beat-own : own_wrong Heartbeat (tags_of fs) ≡ not_once [] (frame_tags fs)
  unfolding is_own_wrong
  beat-own = refl

  logout-own : own_wrong Logout (tags_of fs) ≡ not_once [] (frame_tags fs)
  unfolding is_own_wrong
  logout-own = refl

  other-links : tags_wrong Other (tallied_from Other no_tally fs) ≡ wrong_tags Other fs
  unfolding wrong_tags
  other-links =
      let ts = tags_of fs in
      tally-verdict Other fs
      ∙ other-order (met 8 ts) (met 9 ts) (met 35 ts) (met 10 ts) (eqb (times 34 ts) 1) (ltb 1 (times 43 ts))
      (eqb (times 49 ts) 1) (eqb (times 56 ts) 1) (eqb (times 52 ts) 1) (own_wrong Other ts)
      ∙ sym (ap (λ b. cond b true (ltb 1 (times 43 ts))) (other-once fs))

pub links-tags : (kind : Kind) (fs : List Given) → tags_wrong kind (tallied_from kind no_tally fs) ≡ wrong_tags kind fs
links-tags Heartbeat fs = session-links Heartbeat [] fs refl refl (beat-own fs)
links-tags TestRequest fs = session-links TestRequest (112 ∷ []) fs refl refl (test-own fs)
links-tags ResendRequest fs = session-links ResendRequest (7 ∷ 16 ∷ []) fs refl refl (resend-own fs)
links-tags SequenceReset fs = session-links SequenceReset (36 ∷ []) fs refl refl (reset-own fs)
links-tags Logout fs = session-links Logout [] fs refl refl (logout-own fs)
links-tags Logon fs = session-links Logon (98 ∷ 108 ∷ []) fs refl refl (logon-own fs)
links-tags Other fs = other-links fs
