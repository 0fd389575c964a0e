-- Rows 28 and 29, by the pairs. Assumes nothing.
use Prim.Native.Nat.{ℕ, ◌+◌, ◌<◌, ◌≤◌}
use mathlib.Core.Path.{◌≡◌, refl, sym, ap, subst, ◌∙◌}
use mathlib.Core.Logic.{◌⊎◌, inl, inr}
use mathlib.Core.List.{List, [], ◌∷◌, ◌++◌}
use mathlib.Core.Bool.{Bool, true, false, cond, ◌&&◌, ◌||◌, not}
use mathlib.Core.Option.{some, none-ne-some}
use native.Mathlib.Omega.{arith}
use borrow.Author.Tests.{le-ltb, ltb-false, eq-eqb, ne_eqb, eqb-true, eqb-false, not-true}
use lib.ListN.{length, take}
use lib.Dec.{ltb, eqb}
use Rattle.ftd.specs.Refusal.{number_of}
use Rattle.ftd.specs.declared.refusal.Refusal.{Refusal}
use Rattle.ftd.specs.declared.refusal.Refusal.TheVariants.{NotOneFrame, RequiredTag, LowNumber}
use Rattle.fix.specs.Types.{Number}
use Rattle.fix.specs.declared.kinds.Kind.{Kind}
use Rattle.fix.specs.declared.kinds.Kind.TheVariants.{Heartbeat, TestRequest, ResendRequest, SequenceReset}
use Rattle.fix.specs.declared.kinds.Kind.TheVariants.{Logout, Logon, Other}
use Rattle.fix.specs.declared.read.Message.{Message}
use Rattle.fix.specs.declared.read.Judged.TheVariants.{Refused}
use Rattle.fix.specs.Text.{number_in, or_else, is_none}
use Rattle.fix.specs.Kinds.{kind_of, required, is_resend, session_number, logon_number, resend_number, is_number_tag}
use Rattle.fix.specs.Fields.{Given, fields_of, tags_of, says_yes}
use Rattle.fix.specs.Check.{any_odd, number_then, numbers_at, below_any, any_below, wrong_range, wrong_numbers, times}
use Rattle.fix.specs.Check.{not_once, frame_tags, wrong_tags}
use Rattle.fix.specs.Frame.{frame_of, frame_bytes, is_framed}
use Rattle.fix.specs.Read.{message_of, message_in, read_of}
use Rattle.fix.specs.Write.{write_answer, write_output}
use Rattle.fix.specs.RoundTrips.{text_at, ReadsAs}
use Rattle.fix.specs.Pairs.{Pair, pair, pairs_in, pairs_of, bytes_of, IsNumber, CanWrite, no_pair}
use Rattle.fix.specs.Values.{In, Without, Only}
use Rattle.fix.specs.Examples.{answer_number}
use Rattle.fix.specs.Rows.{Among, number_tags, NumbersRight, once_tags, TagsRight, Framing, kind_in, pairs_at, Rows}
use Rattle.fix.proofs.tally.Folds.{or-false}
use Rattle.fix.proofs.tally.Links.{in_frame}
use Rattle.fix.proofs.frame.Words.{and_both, other-taken}
use Rattle.fix.proofs.Numerals.{number_is, is_number}
use Rattle.fix.proofs.Values.{never_true, or-neither, or_right, odd-here, not_none, without, once, has}
use Rattle.fix.proofs.Values.{required-once, onces, own-times, there, Bears, read-bears}
use Rattle.fix.proofs.Values.{Outcome, bears, no_frame, odd_number, odd_tag, outcome}
use Rattle.fix.proofs.Judgement.{clash, any_of, read-way, bears-zero, ResetNow}
use Rattle.fix.proofs.RoundTrips.{passed, round-trips}
use Rattle.fix.proofs.Pairs.{pair-laws}
use Rattle.std.specs.Prelude.{Some, None, Ok}

-- ─── Lists of tags ───

has-so : (k : ℕ) (l : List ℕ) → Among k l → has k l ≡ true
has-so k [] h = absurd h
has-so k (t ∷ l) (inl e) = rw (eq-eqb t k e)
has-so k (t ∷ l) (inr h) = rw (has-so k l h) (or_right (eqb t k))

has-then : (k : ℕ) (l : List ℕ) → has k l ≡ true → Among k l
has-then k [] e = absurd (never_true e)
has-then k (t ∷ l) e = go (eqb t k) refl (has-then k l) e
  where
    go : (b : Bool) → eqb t k ≡ b → (has k l ≡ true → Among k l) → (b || has k l) ≡ true → (t ≡ k) ⊎ Among k l
    go true p ih e = inl (eqb-true t k p)
    go false p ih e = inr (ih e)

has-append : (k : ℕ) (l m : List ℕ) → has k (l ++ m) ≡ (has k l || has k m)
has-append k [] m = refl
has-append k (t ∷ l) m = go (eqb t k) (has-append k l m)
  where
    go : (b : Bool) → has k (l ++ m) ≡ (has k l || has k m) → (b || has k (l ++ m)) ≡ ((b || has k l) || has k m)
    go true e = refl
    go false e = e

-- A test that each of a list passes.
abbrev all : (ℕ → Bool) → List ℕ → Bool
all f [] = true
all f (t ∷ l) = f t && all f l

all_among : (f : ℕ → Bool) (k : ℕ) (l : List ℕ) → all f l ≡ true → Among k l → f k ≡ true
all_among f k [] e h = absurd h
all_among f k (t ∷ l) e (inl q) = subst (λ (x : ℕ). f x ≡ true) q (and_both (f t) (all f l) e).0
all_among f k (t ∷ l) e (inr h) = all_among f k l (and_both (f t) (all f l) e).1 h

-- ─── 28: which tags are numbers ───

eqb_comm : (a b : ℕ) → eqb a b ≡ eqb b a
eqb_comm a b = go (eqb a b) refl
  where
    go : (x : Bool) → eqb a b ≡ x → x ≡ eqb b a
    go true e = sym (eq-eqb b a (sym (eqb-true a b e)))
    go false e = sym (ne_eqb b a (λ q. eqb-false a b e (sym q)))

module _ (k : ℕ) where
  abbrev header : List ℕ
  header = 34 ∷ 90 ∷ 93 ∷ 369 ∷ []

  session-has : session_number k ≡ has k header
  unfolding session_number
  session-has =
      rw (eqb_comm k 34, eqb_comm k 90, eqb_comm k 93, eqb_comm k 369, or-false (eqb 369 k))

  own-has : (x : Bool) (l : List ℕ) → x ≡ has k l → (session_number k || x) ≡ has k (header ++ l)
  own-has x l e = rw (session-has, e) (sym (has-append k header l))

  one_has : (t : ℕ) → eqb k t ≡ has k (t ∷ [])
  one_has t = rw (eqb_comm k t, or-false (eqb t k))

  resend-has : resend_number k ≡ has k (7 ∷ 16 ∷ [])
  unfolding resend_number
  resend-has = rw (eqb_comm k 7, eqb_comm k 16, or-false (eqb 16 k))

  logon-has : logon_number k ≡ has k (98 ∷ 108 ∷ 95 ∷ 383 ∷ 384 ∷ [])
  unfolding logon_number
  logon-has =
      rw (eqb_comm k 98, eqb_comm k 108, eqb_comm k 95, eqb_comm k 383, eqb_comm k 384, or-false (eqb 384 k))

  number-has : (kind : Kind) → is_number_tag kind k ≡ has k (number_tags kind)
  unfolding is_number_tag
  number-has Heartbeat = session-has
  number-has TestRequest = session-has
  number-has ResendRequest = own-has (resend_number k) (7 ∷ 16 ∷ []) resend-has
  number-has SequenceReset = own-has (eqb k 36) (36 ∷ []) (one_has 36)
  number-has Logout = own-has (eqb k 354) (354 ∷ []) (one_has 354)
  number-has Logon = own-has (logon_number k) (98 ∷ 108 ∷ 95 ∷ 383 ∷ 384 ∷ []) logon-has
  number-has Other = one_has 34

-- ─── 28: the texts ───

even-in : (kind : Kind) (fs : List Given) → any_odd kind fs ≡ false → (p : Pair) → In p (pairs_in fs)
    → is_number_tag kind p.tag ≡ true → is_none (number_in p.text) ≡ false
even-in kind [] e p h n = absurd h
even-in kind (f ∷ fs) e p (inl q) n =
    let a : f.tag ≡ p.tag = ap (λ (x : Pair). x.tag) q in
    let b : f.text ≡ p.text = ap (λ (x : Pair). x.text) q in
    let o : (is_number_tag kind f.tag && is_none (number_in f.text)) ≡ false =
    (or-neither (is_number_tag kind f.tag && is_none (number_in f.text)) (any_odd kind fs) e).0 in
    odd-here (is_number_tag kind p.tag) (is_none (number_in p.text)) n (rw (a, b) at o)
even-in kind (f ∷ fs) e p (inr h) n =
    even-in kind fs (or-neither (is_number_tag kind f.tag && is_none (number_in f.text)) (any_odd kind fs) e).1 p h n

all-even : (kind : Kind) (fs : List Given)
    → ((p : Pair) → In p (pairs_in fs) → Among p.tag (number_tags kind) → (n : ℕ) × IsNumber p.text n)
    → any_odd kind fs ≡ false
all-even kind [] h = refl
all-even kind (f ∷ fs) h =
    rw (go (is_number_tag kind f.tag) refl) (all-even kind fs (λ p i. h p (inr i)))
  where
    by : (n : ℕ) × IsNumber f.text n → is_none (number_in f.text) ≡ false
    by (n, i) = rw (is_number f.text n i)

    go : (b : Bool) → is_number_tag kind f.tag ≡ b → (b && is_none (number_in f.text)) ≡ false
    go true e =
        let a = has-then f.tag (number_tags kind) (sym (number-has f.tag kind) ∙ e) in
        by (h (pair f.tag f.text) (inl refl) a)
    go false e = refl

-- ─── 28: the range ───

in-numbers : (k n : ℕ) (t : List ℕ) (fs : List Given) → In (pair k t) (pairs_in fs) → IsNumber t n
    → Among n (numbers_at k fs)
in-numbers k n t [] h i = absurd h
in-numbers k n t (f ∷ fs) (inl q) i =
    let a : f.tag ≡ k = ap (λ (x : Pair). x.tag) q in
    let b : f.text ≡ t = ap (λ (x : Pair). x.text) q in
    rw (eq-eqb f.tag k a, b, is_number t n i) (inl refl)
in-numbers k n t (f ∷ fs) (inr h) i = go (eqb f.tag k) (number_in f.text) (in-numbers k n t fs h i)
  where
    go : (b : Bool) (x : Number) → Among n (numbers_at k fs)
        → Among n (cond b (number_then x (numbers_at k fs)) (numbers_at k fs))
    go true None ih = ih
    go true (Some m) ih = inr ih
    go false x ih = ih

numbers-in : (k n : ℕ) (fs : List Given) → Among n (numbers_at k fs)
    → (t : List ℕ) × In (pair k t) (pairs_in fs) × IsNumber t n
numbers-in k n [] h = absurd h
numbers-in k n (f ∷ fs) h = go (eqb f.tag k) refl (number_in f.text) refl (numbers-in k n fs) h
  where
    later : (t : List ℕ) × In (pair k t) (pairs_in fs) × IsNumber t n
        → (t : List ℕ) × In (pair k t) (pairs_in (f ∷ fs)) × IsNumber t n
    later (t, i, x) = (t, inr i, x)

    go : (b : Bool) → eqb f.tag k ≡ b → (x : Number) → number_in f.text ≡ x
        → (Among n (numbers_at k fs) → (t : List ℕ) × In (pair k t) (pairs_in fs) × IsNumber t n)
        → Among n (cond b (number_then x (numbers_at k fs)) (numbers_at k fs))
        → (t : List ℕ) × In (pair k t) (pairs_in (f ∷ fs)) × IsNumber t n
    go true p None q ih h = later (ih h)
    go true p (Some m) q ih (inl e) =
        (f.text, inl (ap (λ (x : ℕ). pair x f.text) (eqb-true f.tag k p)), number_is f.text n (rw e at q))
    go true p (Some m) q ih (inr h) = later (ih h)
    go false p x q ih h = later (ih h)

none_below : (last first : ℕ) (l : List ℕ) → below_any last l ≡ false → Among first l → first ≤ last
none_below last first [] e h = absurd h
none_below last first (x ∷ l) e (inl q) =
    rw q at (ltb-false last x (or-neither (ltb last x) (below_any last l) e).0)
none_below last first (x ∷ l) e (inr h) = none_below last first l (or-neither (ltb last x) (below_any last l) e).1 h

not-below : (last first : ℕ) (l m : List ℕ) → any_below l m ≡ false → Among last l → Among first m
    → (last ≡ 0) ⊎ (first ≤ last)
not-below last first [] m e h i = absurd h
not-below last first (x ∷ l) m e (inl q) i =
    go (eqb x 0) refl (or-neither (not (eqb x 0) && below_any x m) (any_below l m) e).0
  where
    go : (b : Bool) → eqb x 0 ≡ b → (not b && below_any x m) ≡ false → (last ≡ 0) ⊎ (first ≤ last)
    go true p o = inl (sym q ∙ eqb-true x 0 p)
    go false p o = inr (rw q at (none_below x first m o i))
not-below last first (x ∷ l) m e (inr h) i =
    not-below last first l m (or-neither (not (eqb x 0) && below_any x m) (any_below l m) e).1 h i

below_none : (last : ℕ) (m : List ℕ) → ((first : ℕ) → Among first m → first ≤ last) → below_any last m ≡ false
below_none last [] h = refl
below_none last (x ∷ m) h =
    rw (le-ltb last x (h x (inl refl))) (below_none last m (λ y i. h y (inr i)))

no-below : (l m : List ℕ)
    → ((last first : ℕ) → Among last l → Among first m → (last ≡ 0) ⊎ (first ≤ last)) → any_below l m ≡ false
no-below [] m h = refl
no-below (x ∷ l) m h =
    rw (go (eqb x 0) refl) (no-below l m (λ y z i j. h y z (inr i) j))
  where
    by : (z : ℕ) → eqb x 0 ≡ false → (x ≡ 0) ⊎ (z ≤ x) → z ≤ x
    by z e (inl q) = absurd (eqb-false x 0 e q)
    by z e (inr q) = q

    go : (b : Bool) → eqb x 0 ≡ b → (not b && below_any x m) ≡ false
    go true e = refl
    go false e = below_none x m (λ z i. by z e (h x z (inl refl) i))

resend-only : (kind : Kind) (x : Bool) → (kind ≡ ResendRequest → x ≡ false) → (is_resend kind && x) ≡ false
resend-only Heartbeat x h = refl
resend-only TestRequest x h = refl
resend-only ResendRequest x h = h refl
resend-only SequenceReset x h = refl
resend-only Logout x h = refl
resend-only Logon x h = refl
resend-only Other x h = refl

numbers-right : (kind : Kind) (fs : List Given) → wrong_numbers kind fs ≡ false → NumbersRight kind (pairs_in fs)
unfolding wrong_numbers wrong_range
numbers-right kind fs e =
    let y = other-taken true (is_resend kind && wrong_range fs) false (any_odd kind fs) (λ q. never_true (sym q)) e in
    record {
      numbers =
          λ p i a.
          let n : is_number_tag kind p.tag ≡ true = number-has p.tag kind ∙ has-so p.tag (number_tags kind) a in
          let o = even-in kind fs y.0 p i n in
          (or_else 0 (number_in p.text), number_is p.text _ (not_none (number_in p.text) o));
      range =
          λ k first last s t i a j b.
          let r : any_below (numbers_at 16 fs) (numbers_at 7 fs) ≡ false = rw k at y.1 in
          not-below last first (numbers_at 16 fs) (numbers_at 7 fs) r (in-numbers 16 last t fs j b)
          (in-numbers 7 first s fs i a);
    }

right-numbers : (kind : Kind) (fs : List Given) → NumbersRight kind (pairs_in fs) → wrong_numbers kind fs ≡ false
unfolding wrong_numbers wrong_range
right-numbers kind fs r =
    rw (all-even kind fs r.numbers)
    (resend-only kind (any_below (numbers_at 16 fs) (numbers_at 7 fs))
    (λ k. no-below (numbers_at 16 fs) (numbers_at 7 fs)
    (λ last first h i. by k last first (numbers-in 16 last fs h) (numbers-in 7 first fs i))))
  where
    by : kind ≡ ResendRequest → (last first : ℕ) → (t : List ℕ) × In (pair 16 t) (pairs_in fs) × IsNumber t last
        → (s : List ℕ) × In (pair 7 s) (pairs_in fs) × IsNumber s first → (last ≡ 0) ⊎ (first ≤ last)
    by k last first (t, j, b) (s, i, a) = r.range k first last s t i a j b

-- ─── 29: how often a tag occurs ───

abbrev times_in : ℕ → List Pair → ℕ
times_in k [] = 0
times_in k (p ∷ ps) = cond (eqb p.tag k) 1 0 + times_in k ps

times-in : (k : ℕ) (fs : List Given) → times k (tags_of fs) ≡ times_in k (pairs_in fs)
times-in k [] = refl
times-in k (f ∷ fs) = ap (λ (n : ℕ). cond (eqb f.tag k) 1 0 + n) (times-in k fs)

in-append : (k : ℕ) (l m : List Pair) → times_in k (l ++ m) ≡ times_in k l + times_in k m
in-append k [] m = omega arith
in-append k (p ∷ l) m =
    let e = in-append k l m in
    omega (arith, e)

in-none : (k : ℕ) (ps : List Pair) → Without k ps → times_in k ps ≡ 0
in-none k [] w = refl
in-none k (p ∷ ps) w = rw (ne_eqb p.tag k w.0, in-none k ps w.1) (omega arith)

without-times : (k : ℕ) (fs : List Given) → Without k (pairs_in fs) → times k (tags_of fs) ≡ 0
without-times k fs w = times-in k fs ∙ in-none k (pairs_in fs) w

only-times : (k : ℕ) (fs : List Given) (text : List ℕ) → Only k text (pairs_in fs) → times k (tags_of fs) ≡ 1
only-times k fs text o =
    let a : times_in k o.before ≡ 0 = in-none k o.before o.none_before in
    let b : times_in k o.after ≡ 0 = in-none k o.after o.none_after in
    let c : times_in k (pair k text ∷ o.after) ≡ 1 = rw (eq-eqb k k refl, b) in
    times-in k fs ∙ ap (times_in k) o.there ∙ in-append k o.before (pair k text ∷ o.after) ∙ rw (a, c)

-- A tag that the frame has already.
frame-times : (k : ℕ) (fs : List Given) → Among k (8 ∷ 9 ∷ 35 ∷ 10 ∷ [])
    → times k (frame_tags fs) ≡ 1 + times k (tags_of fs)
frame-times k fs (inl e) =
    subst (λ (x : ℕ). times x (frame_tags fs) ≡ 1 + times x (tags_of fs)) e (in_frame 8 fs ∙ omega arith)
frame-times k fs (inr (inl e)) =
    subst (λ (x : ℕ). times x (frame_tags fs) ≡ 1 + times x (tags_of fs)) e (in_frame 9 fs ∙ omega arith)
frame-times k fs (inr (inr (inl e))) =
    subst (λ (x : ℕ). times x (frame_tags fs) ≡ 1 + times x (tags_of fs)) e (in_frame 35 fs ∙ omega arith)
frame-times k fs (inr (inr (inr (inl e)))) =
    subst (λ (x : ℕ). times x (frame_tags fs) ≡ 1 + times x (tags_of fs)) e (in_frame 10 fs ∙ omega arith)
frame-times k fs (inr (inr (inr (inr h)))) = absurd h

-- ─── 29: the required tags ───

-- Required, and none of the frame's.
abbrev asked : Kind → ℕ → Bool
asked kind k =
    has k (required kind) && (not (eqb 8 k) && (not (eqb 9 k) && (not (eqb 35 k) && not (eqb 10 k))))

record Asked (kind : Kind) (k : ℕ) : Type 0 where
  required : has k (required kind) ≡ true
  not8 : eqb 8 k ≡ false
  not9 : eqb 9 k ≡ false
  not35 : eqb 35 k ≡ false
  not10 : eqb 10 k ≡ false

asked-all : (kind : Kind) → all (asked kind) (once_tags kind) ≡ true
asked-all Heartbeat = refl
asked-all TestRequest = refl
asked-all ResendRequest = refl
asked-all SequenceReset = refl
asked-all Logout = refl
asked-all Logon = refl
asked-all Other = refl

asked-so : (kind : Kind) (k : ℕ) → Among k (once_tags kind) → Asked kind k
asked-so kind k h =
    let e = all_among (asked kind) k (once_tags kind) (asked-all kind) h in
    let x = and_both (has k (required kind)) (not (eqb 8 k) && (not (eqb 9 k) && (not (eqb 35 k) && not (eqb 10 k)))) e in
    let y = and_both (not (eqb 8 k)) (not (eqb 9 k) && (not (eqb 35 k) && not (eqb 10 k))) x.1 in
    let z = and_both (not (eqb 9 k)) (not (eqb 35 k) && not (eqb 10 k)) y.1 in
    let w = and_both (not (eqb 35 k)) (not (eqb 10 k)) z.1 in
    record {
      required = x.0;
      not8 = not-true (eqb 8 k) y.0;
      not9 = not-true (eqb 9 k) z.0;
      not35 = not-true (eqb 35 k) w.0;
      not10 = not-true (eqb 10 k) w.1;
    }

frame-all : (kind : Kind) → all (λ k. has k (required kind)) (8 ∷ 9 ∷ 35 ∷ 10 ∷ []) ≡ true
frame-all Heartbeat = refl
frame-all TestRequest = refl
frame-all ResendRequest = refl
frame-all SequenceReset = refl
frame-all Logout = refl
frame-all Logon = refl
frame-all Other = refl

-- Required tags are these, and no others.
known-all : (kind : Kind) → all (λ k. has k (once_tags kind) || has k (8 ∷ 9 ∷ 35 ∷ 10 ∷ [])) (required kind) ≡ true
known-all Heartbeat = refl
known-all TestRequest = refl
known-all ResendRequest = refl
known-all SequenceReset = refl
known-all Logout = refl
known-all Logon = refl
known-all Other = refl

tags-right : (kind : Kind) (fs : List Given) → wrong_tags kind fs ≡ false → TagsRight kind (pairs_in fs)
tags-right kind fs e =
    record {
      once =
          λ k h.
          let a = asked-so kind k h in
          let o = there kind fs e k a.required a.not8 a.not9 a.not35 a.not10 in
          (o.text, o.only);
      frame =
          λ k h.
          let r : has k (required kind) ≡ true =
          all_among (λ x. has x (required kind)) k (8 ∷ 9 ∷ 35 ∷ 10 ∷ []) (frame-all kind) h in
          let x : times k (frame_tags fs) ≡ 1 = required-once k (required kind) (frame_tags fs) (onces kind fs e).0 r in
          let y = frame-times k fs h in
          without k fs (omega (arith, x, y));
      flag = go (eqb (times 43 (tags_of fs)) 0) refl (ltb-false 1 (times 43 (tags_of fs)) (onces kind fs e).1);
    }
  where
    go : (b : Bool) → eqb (times 43 (tags_of fs)) 0 ≡ b → times 43 (tags_of fs) ≤ 1
        → Without 43 (pairs_in fs) ⊎ ((text : List ℕ) × Only 43 text (pairs_in fs))
    go true p h = inl (without 43 fs (eqb-true (times 43 (tags_of fs)) 0 p))
    go false p h =
        let n = eqb-false (times 43 (tags_of fs)) 0 p in
        let o = once 43 fs (omega (arith, n, h)) in
        inr (o.text, o.only)

not-once : (rs tags : List ℕ) → ((r : ℕ) → Among r rs → times r tags ≡ 1) → not_once rs tags ≡ false
not-once [] tags h = refl
not-once (r ∷ rs) tags h =
    rw (eq-eqb (times r tags) 1 (h r (inl refl))) (not-once rs tags (λ k i. h k (inr i)))

or-either : (a b : Bool) → (a || b) ≡ true → (a ≡ true) ⊎ (b ≡ true)
or-either true b e = inl refl
or-either false b e = inr e

right-tags : (kind : Kind) (fs : List Given) → TagsRight kind (pairs_in fs) → wrong_tags kind fs ≡ false
unfolding wrong_tags
right-tags kind fs t =
    rw (not-once (required kind) (frame_tags fs) (λ k h. by k (known k h)))
    (le-ltb 1 (times 43 (tags_of fs)) (few t.flag))
  where
    known : (k : ℕ) → Among k (required kind) → (has k (once_tags kind) ≡ true) ⊎ (has k (8 ∷ 9 ∷ 35 ∷ 10 ∷ []) ≡ true)
    known k h =
        or-either (has k (once_tags kind)) (has k (8 ∷ 9 ∷ 35 ∷ 10 ∷ []))
        (all_among (λ x. has x (once_tags kind) || has x (8 ∷ 9 ∷ 35 ∷ 10 ∷ [])) k (required kind) (known-all kind) h)

    one : (k : ℕ) → (text : List ℕ) × Only k text (pairs_in fs) → times k (tags_of fs) ≡ 1
    one k (text, o) = only-times k fs text o

    by : (k : ℕ) → (has k (once_tags kind) ≡ true) ⊎ (has k (8 ∷ 9 ∷ 35 ∷ 10 ∷ []) ≡ true) → times k (frame_tags fs) ≡ 1
    by k (inl e) =
        let h = has-then k (once_tags kind) e in
        let a = asked-so kind k h in
        own-times k fs a.not8 a.not9 a.not35 a.not10 ∙ one k (t.once k h)
    by k (inr e) =
        let h = has-then k (8 ∷ 9 ∷ 35 ∷ 10 ∷ []) e in
        let x = frame-times k fs h in
        let y = without-times k fs (t.frame k h) in
        omega (arith, x, y)

    few : Without 43 (pairs_in fs) ⊎ ((text : List ℕ) × Only 43 text (pairs_in fs)) → times 43 (tags_of fs) ≤ 1
    few (inl w) = let x = without-times 43 fs w in omega (arith, x)
    few (inr o) = let x = one 43 o in omega (arith, x)

-- ─── As the statement asks for it ───

true-false : (x : Bool) → x ≡ true → x ≡ false → ⊥
true-false x a b = never_true (sym b ∙ a)

taken : (b : List ℕ) (f : Framing b) → NumbersRight (kind_in b f) (pairs_at b f) → TagsRight (kind_in b f) (pairs_at b f)
    → (m : Message) × (message_in (read_of b 0).answer ≡ some m)
taken b f n t =
    let fs = fields_of (text_at b f.fields) in
    let c : Bears b (message_of b f.name f.fields) =
    record {
      name = f.name;
      fields = f.fields;
      framed = f.framed;
      numbers = right-numbers (kind_in b f) fs n;
      tags = right-tags (kind_in b f) fs t;
      same = refl;
    } in
    (message_of b f.name f.fields, bears-zero b (message_of b f.name f.fields) c)

right : (b : List ℕ) (expected : ℕ) (m : Message) → message_in (read_of b expected).answer ≡ some m
    → (f : Framing b) × NumbersRight (kind_in b f) (pairs_at b f) × TagsRight (kind_in b f) (pairs_at b f)
right b expected m h =
    let c = read-bears b expected m h in (
      record { name = c.name; fields = c.fields; framed = c.framed },
      numbers-right (kind_of (text_at b c.name)) (fields_of (text_at b c.fields)) c.numbers,
      tags-right (kind_of (text_at b c.name)) (fields_of (text_at b c.fields)) c.tags,
    )

-- A message is refused neither 28 nor 29.
module _ (b : List ℕ) (expected : ℕ) (m : Message) (c : Bears b m) (r : Refusal) (n : number_of r ≡ 30 → ⊥)
    (q : (read_of b expected).answer ≡ Refused r) where
  never-bears : ⊥
  never-bears = go (any_of m flag expected (read_of b expected) (read-way b m c expected))
    where
      flag : Bool
      flag = says_yes 43 (fields_of (text_at b m.fields))

      go : (message_in (read_of b expected).answer ≡ some m)
          ⊎ (((read_of b expected).answer ≡ Refused LowNumber) × (m.number < expected) × (flag ≡ false) × (ResetNow m → ⊥))
          → ⊥
      go (inl e) = none-ne-some m (rw q at e)
      go (inr (e, h, d, p)) = n (sym (ap answer_number (sym e ∙ q)))

row28 : (b : List ℕ) (expected : ℕ) → (read_of b expected).answer ≡ Refused NotOneFrame
    → (frame_of b ≡ None) ⊎ ((f : Framing b) × (NumbersRight (kind_in b f) (pairs_at b f) → ⊥))
row28 b expected q = go (outcome b)
  where
    go : Outcome b → (frame_of b ≡ None) ⊎ ((f : Framing b) × (NumbersRight (kind_in b f) (pairs_at b f) → ⊥))
    go (bears m c) = absurd (never-bears b expected m c NotOneFrame (λ z. omega (arith, z)) q)
    go (no_frame e t) = inl e
    go (odd_number name fields e p t) =
        let kind = kind_of (text_at b name) in
        let fs = fields_of (text_at b fields) in
        inr (
          record { name = name; fields = fields; framed = e },
          λ r. true-false (wrong_numbers kind fs) p (right-numbers kind fs r),
        )
    go (odd_tag name fields e p o t) =
        absurd (clash (read_of b expected) expected (Refused RequiredTag) (Refused NotOneFrame) (t expected) q
        (λ z. omega (arith, z)))

row29 : (b : List ℕ) (expected : ℕ) → (read_of b expected).answer ≡ Refused RequiredTag
    → (f : Framing b) × NumbersRight (kind_in b f) (pairs_at b f) × (TagsRight (kind_in b f) (pairs_at b f) → ⊥)
row29 b expected q = go (outcome b)
  where
    go : Outcome b
        → (f : Framing b) × NumbersRight (kind_in b f) (pairs_at b f) × (TagsRight (kind_in b f) (pairs_at b f) → ⊥)
    go (bears m c) = absurd (never-bears b expected m c RequiredTag (λ z. omega (arith, z)) q)
    go (no_frame e t) =
        absurd (clash (read_of b expected) expected (Refused NotOneFrame) (Refused RequiredTag) (t expected) q
        (λ z. omega (arith, z)))
    go (odd_number name fields e p t) =
        absurd (clash (read_of b expected) expected (Refused NotOneFrame) (Refused RequiredTag) (t expected) q
        (λ z. omega (arith, z)))
    go (odd_tag name fields e p o t) =
        let kind = kind_of (text_at b name) in
        let fs = fields_of (text_at b fields) in (
          record { name = name; fields = fields; framed = e },
          numbers-right kind fs p,
          λ r. true-false (wrong_tags kind fs) o (right-tags kind fs r),
        )

written : (name run : List ℕ) (room n : ℕ) → write_answer name run room ≡ Ok n
    → NumbersRight (kind_of name) (pairs_of run) × TagsRight (kind_of name) (pairs_of run)
written name run room n e =
    let p = passed name run room n e in
    (numbers-right (kind_of name) (fields_of run) p.numbers, tags-right (kind_of name) (fields_of run) p.tags)

writes : (name run : List ℕ) (room : ℕ) → is_framed name run ≡ true → NumbersRight (kind_of name) (pairs_of run)
    → TagsRight (kind_of name) (pairs_of run) → length (frame_bytes name run) ≤ room
    → write_answer name run room ≡ Ok (length (frame_bytes name run))
unfolding write_answer
writes name run room f n t h =
    rw (
      f,
      right-numbers (kind_of name) (fields_of run) n,
      le-ltb room (length (frame_bytes name run)) h,
      right-tags (kind_of name) (fields_of run) t,
    )

reads-bears : (b name run : List ℕ) (r : ReadsAs b name run) → Bears b (message_of b r.name_at r.fields_at)
reads-bears b name run r =
    record {
      name = r.name_at;
      fields = r.fields_at;
      framed = r.framed;
      numbers = rw (r.same_name, r.same_fields) r.numbers;
      tags = rw (r.same_name, r.same_fields) r.tags;
      same = refl;
    }

back : (name out : List ℕ) (ps : List Pair) (n : ℕ) → CanWrite no_pair ps
    → write_answer name (bytes_of ps) (length out) ≡ Ok n
    → let b = take n (write_output name (bytes_of ps) out) in
    (m : Message) × (message_in (read_of b 0).answer ≡ some m) × (text_at b m.name ≡ name)
    × (pairs_of (text_at b m.fields) ≡ ps)
unfolding message_of
back name out ps n c e =
    let b : List ℕ = take n (write_output name (bytes_of ps) out) in
    let r = round-trips.back name (bytes_of ps) out n e in
    let m = message_of b r.name_at r.fields_at in (
      m,
      bears-zero b m (reads-bears b name (bytes_of ps) r),
      r.same_name,
      rw r.same_fields (pair-laws.back ps c).1,
    )

pub rows : Rows
rows =
    record {
      taken = taken;
      right = right;
      row28 = row28;
      row29 = row29;
      written = written;
      writes = writes;
      back = back;
    }
