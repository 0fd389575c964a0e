-- What each value of a message is. Assumes nothing.
use Prim.Native.Nat.{ℕ, suc, ◌+◌, ◌≤◌}
use mathlib.Core.Path.{◌≡◌, refl, sym, ap, subst, ◌∙◌}
use mathlib.Core.Logic.{◌⊎◌, inl, inr}
use mathlib.Core.List.{List, [], ◌∷◌, ◌++◌}
use mathlib.Core.Bool.{Bool, true, false, cond, ◌&&◌, ◌||◌, not}
use mathlib.Core.Option.{none, some, none-ne-some}
use native.Mathlib.Omega.{arith}
use borrow.Author.Tests.{eq-eqb, ne_eqb, eqb-true, eqb-false, not-false}
use lib.ListN.{length, get_or, take, drop, length-drop, take-append-drop}
use lib.Seq.{drop-drop, take-append-le, drop-append-le}
use lib.Dec.{ltb, eqb}
use Rattle.ftd.specs.Bytes.{part}
use Rattle.ftd.specs.Packet.{span}
use Rattle.ftd.specs.declared.packet.Span.{Span}
use Rattle.ftd.specs.declared.refusal.Refusal.TheVariants.{NotOneFrame, RequiredTag, LowNumber}
use Rattle.fix.specs.Types.{Number}
use Rattle.fix.specs.declared.kinds.Kind.{Kind}
use Rattle.fix.specs.declared.kinds.Kind.TheVariants.{Heartbeat, TestRequest, ResendRequest, SequenceReset}
use Rattle.fix.specs.declared.kinds.Kind.TheVariants.{Logout, Logon, Other}
use Rattle.fix.specs.declared.read.Message.{Message}
use Rattle.fix.specs.declared.read.Judged.TheVariants.{Refused, Next, Again, Gap, Reset}
use Rattle.fix.specs.Text.{number_in, or_else, is_none, is_yes}
use Rattle.fix.specs.Kinds.{kind_for, kind_of, required, is_reset, session_number, logon_number, resend_number, is_number_tag}
use Rattle.fix.specs.Fields.{Given, fields_of, first_of, tags_of, number_at, says_yes}
use Rattle.fix.specs.Check.{any_odd, wrong_numbers, times, not_once, frame_tags, wrong_tags}
use Rattle.fix.specs.Frame.{frame_of}
use Rattle.fix.specs.Read.{moved_to, message_with, message_of, message_in, reading, numbered_of, judged_of, checked_of}
use Rattle.fix.specs.Read.{read_of}
use Rattle.fix.specs.RoundTrips.{text_at}
use Rattle.fix.specs.Pairs.{Pair, pair, pairs_in, pairs_of, CanWrite, no_pair}
use Rattle.fix.specs.Values.{In, Without, Only, Says, NumberOrNot, KindIs, Own, Values, FrameValues}
use Rattle.fix.proofs.fields.Turns.{first_text, LiesAt, text-lies, number-text}
use Rattle.fix.proofs.tally.Links.{in_frame}
use Rattle.fix.proofs.frame.Words.{and_both, other-taken}
use Rattle.fix.proofs.frame.Outlines.{outlined, whole, frame_same}
use Rattle.fix.proofs.Numerals.{never-number, number_is, is_number}
use Rattle.fix.proofs.Pairs.{can_write}
use Rattle.std.specs.Prelude.{Some, None}
use Rattle.fix.specs.Types.{MaybeFront, MaybeFrame, some_frame}

-- ─── Tests ───

pub never_true : false ≡ true → ⊥
never_true e = let z : ◌≡◌ {A = ℕ} 0 1 = cc in omega arith

pub or-neither : (a b : Bool) → (a || b) ≡ false → (a ≡ false) × (b ≡ false)
or-neither true b e = absurd (never_true (sym e))
or-neither false b e = (refl, e)

pub or_right : (a : Bool) → (a || true) ≡ true
or_right true = refl
or_right false = refl

-- ─── One field with a tag ───

pub without : (tag : ℕ) (fs : List Given) → times tag (tags_of fs) ≡ 0 → Without tag (pairs_in fs)
without tag [] e = tt
without tag (f ∷ fs) e = go (eqb f.tag tag) refl (without tag fs) e
  where
    go : (b : Bool) → eqb f.tag tag ≡ b → (times tag (tags_of fs) ≡ 0 → Without tag (pairs_in fs))
        → cond b 1 0 + times tag (tags_of fs) ≡ 0 → (f.tag ≡ tag → ⊥) × Without tag (pairs_in fs)
    go true p ih e = absurd (omega (arith, e))
    go false p ih e = (eqb-false f.tag tag p, ih (omega (arith, e)))

pub record Once (tag : ℕ) (fs : List Given) : Type 0 where
  pub text : List ℕ
  pub only : Only tag text (pairs_in fs)
  pub first : first_text tag fs ≡ some text
  pub even : (kind : Kind) → is_number_tag kind tag ≡ true → any_odd kind fs ≡ false → is_none (number_in text) ≡ false

pub odd-here : (a b : Bool) → a ≡ true → (a && b) ≡ false → b ≡ false
odd-here true b p e = e
odd-here false b p e = absurd (never_true p)

pub once : (tag : ℕ) (fs : List Given) → times tag (tags_of fs) ≡ 1 → Once tag fs
once tag [] e = absurd (omega (arith, e))
once tag (f ∷ fs) e = go (eqb f.tag tag) refl (once tag fs) e
  where
    go : (b : Bool) → eqb f.tag tag ≡ b → (times tag (tags_of fs) ≡ 1 → Once tag fs)
        → cond b 1 0 + times tag (tags_of fs) ≡ 1 → Once tag (f ∷ fs)
    go true p ih e =
        let k : f.tag ≡ tag = eqb-true f.tag tag p in
        record {
          text = f.text;
          only =
              record {
                before = [];
                after = pairs_in fs;
                there = ap (λ (n : ℕ). pair n f.text ∷ pairs_in fs) k;
                none_before = tt;
                none_after = without tag fs (omega (arith, e));
              };
          first = rw p;
          even =
              λ kind n o.
              odd-here (is_number_tag kind f.tag) (is_none (number_in f.text)) (rw k n)
              (or-neither (is_number_tag kind f.tag && is_none (number_in f.text)) (any_odd kind fs) o).0;
        }
    go false p ih e =
        let o = ih (omega (arith, e)) in
        let y = o.only in
        record {
          text = o.text;
          only =
              record {
                before = pair f.tag f.text ∷ y.before;
                after = y.after;
                there = ap (λ (l : List Pair). pair f.tag f.text ∷ l) y.there;
                none_before = (eqb-false f.tag tag p, y.none_before);
                none_after = y.none_after;
              };
          first = rw p o.first;
          even =
              λ kind n q.
              o.even kind n (or-neither (is_number_tag kind f.tag && is_none (number_in f.text)) (any_odd kind fs) q).1;
        }

-- ─── Required tags ───

abbrev pub has : ℕ → List ℕ → Bool
has k [] = false
has k (t ∷ ts) = eqb t k || has k ts

pub required-once : (k : ℕ) (rs tags : List ℕ) → not_once rs tags ≡ false → has k rs ≡ true → times k tags ≡ 1
required-once k [] tags e h = absurd (never_true h)
required-once k (r ∷ rs) tags e h =
    let o = or-neither (not (eqb (times r tags) 1)) (not_once rs tags) e in
    go (eqb r k) refl (not-false (eqb (times r tags) 1) o.0) (required-once k rs tags o.1) h
  where
    go : (b : Bool) → eqb r k ≡ b → eqb (times r tags) 1 ≡ true → (has k rs ≡ true → times k tags ≡ 1)
        → (b || has k rs) ≡ true → times k tags ≡ 1
    go true p q ih h = rw (eqb-true r k p) at (eqb-true (times r tags) 1 q)
    go false p q ih h = ih h

pub not_none : (x : Number) → is_none x ≡ false → x ≡ Some (or_else 0 x)
not_none None e = absurd (never_true (sym e))
not_none (Some n) e = refl

pub evens : (kind : Kind) (fs : List Given) → wrong_numbers kind fs ≡ false → any_odd kind fs ≡ false
unfolding wrong_numbers
evens kind fs numbers = (other-taken true _ false (any_odd kind fs) (λ e. never_true (sym e)) numbers).0

pub onces : (kind : Kind) (fs : List Given) → wrong_tags kind fs ≡ false
    → (not_once (required kind) (frame_tags fs) ≡ false) × (ltb 1 (times 43 (tags_of fs)) ≡ false)
unfolding wrong_tags
onces kind fs tags =
    other-taken true _ false (not_once (required kind) (frame_tags fs)) (λ e. never_true (sym e)) tags

-- A tag that the frame does not have already.
pub own-times : (k : ℕ) (fs : List Given) → eqb 8 k ≡ false → eqb 9 k ≡ false → eqb 35 k ≡ false → eqb 10 k ≡ false
    → times k (frame_tags fs) ≡ times k (tags_of fs)
own-times k fs a b c d =
    let f : cond (eqb 8 k) 1 0
    + (cond (eqb 9 k) 1 0 + (cond (eqb 35 k) 1 0 + (times k (tags_of fs) + (cond (eqb 10 k) 1 0 + 0))))
    ≡ times k (tags_of fs) = rw (a, b, c, d) (omega arith) in
    in_frame k fs ∙ f

-- Fields that row 29 passes, and a required tag.
module _ (kind : Kind) (fs : List Given) (tags : wrong_tags kind fs ≡ false) (k : ℕ)
    (r : has k (required kind) ≡ true) (a : eqb 8 k ≡ false) (b : eqb 9 k ≡ false) (c : eqb 35 k ≡ false)
    (d : eqb 10 k ≡ false) where
  pub there : Once k fs
  there =
      once k fs
      (sym (own-times k fs a b c d) ∙ required-once k (required kind) (frame_tags fs) (onces kind fs tags).0 r)

  number-there : number_at k fs ≡ or_else 0 (number_in there.text)
  number-there = number-text k fs ∙ rw there.first

  says : wrong_numbers kind fs ≡ false → is_number_tag kind k ≡ true → Says k (number_at k fs) (pairs_in fs)
  says numbers n =
      let x : number_in there.text ≡ Some (or_else 0 (number_in there.text)) =
      not_none (number_in there.text) (there.even kind n (evens kind fs numbers)) in
      record {
        text = there.text;
        only = there.only;
        number = rw number-there (number_is there.text (or_else 0 (number_in there.text)) x);
      }

-- ─── No field has the tag 0 ───

no_zero : (before : Pair) (ps : List Pair) → CanWrite before ps → Without 0 ps
no_zero before [] c = tt
no_zero before (p ∷ ps) c = (λ e. let h = c.0.least in omega (arith, h, e), no_zero p ps c.1)

none_first : (tag : ℕ) (fs : List Given) → Without tag (pairs_in fs) → first_text tag fs ≡ none
none_first tag [] w = refl
none_first tag (f ∷ fs) w = rw (ne_eqb f.tag tag w.0) (none_first tag fs w.1)

module _ (run : List ℕ) where
  zero-first : first_text 0 (fields_of run) ≡ none
  zero-first = none_first 0 (fields_of run) (no_zero no_pair (pairs_of run) (can_write run))

  zero_number : number_at 0 (fields_of run) ≡ 0
  zero_number = number-text 0 (fields_of run) ∙ rw zero-first

  zero-place : (at : ℕ) → moved_to at (first_of run 0) ≡ span 0 0
  zero-place at = go (first_of run 0) (rw zero-first at (text-lies run 0))
    where
      go : (f : MaybeFront) → LiesAt run none f → moved_to at f ≡ span 0 0
      go None h = refl
      go (Some found) h = absurd h

-- ─── A text of the fields, in the whole bytes ───

part_moved : (b : List ℕ) (at size start len : ℕ) → start + len ≤ length (part b at size)
    → part b (at + start) len ≡ part (part b at size) start len
part_moved b at size start len h =
    let y : List ℕ = drop at b in
    let run : List ℕ = take size y in
    let m = length-drop start run in
    let e : drop start y ≡ drop start run ++ drop size y =
    ap (drop start) (sym (take-append-drop size y)) ∙ drop-append-le start run (drop size y) (omega (arith, h)) in
    rw (← drop-drop start at b, e) (take-append-le len (drop start run) (drop size y) (omega (arith, m, h)))

text-moved : (b : List ℕ) (s : Span) (tag : ℕ) (text : List ℕ)
    → first_text tag (fields_of (text_at b s)) ≡ some text → text_at b (moved_to s.start (first_of (text_at b s) tag)) ≡ text
text-moved b s tag text e = go (first_of (text_at b s) tag) (rw e at (text-lies (text_at b s) tag))
  where
    go : (f : MaybeFront) → LiesAt (text_at b s) (some text) f → text_at b (moved_to s.start f) ≡ text
    go None h = absurd h
    go (Some found) h = part_moved b s.start s.len found.start found.len h.1 ∙ h.0

-- ─── The type by its letter ───

kind-is : (name : List ℕ) → KindIs name (kind_of name)
unfolding kind_of kind_for
kind-is name =
    record {
      heartbeat = λ e. rw e;
      test_request = λ e. rw e;
      resend_request = λ e. rw e;
      sequence_reset = λ e. rw e;
      logout = λ e. rw e;
      logon = λ e. rw e;
      other = λ a b c d e f. go name a b c d e f;
    }
  where
    go : (l : List ℕ) → (l ≡ 48 ∷ [] → ⊥) → (l ≡ 49 ∷ [] → ⊥) → (l ≡ 50 ∷ [] → ⊥) → (l ≡ 52 ∷ [] → ⊥)
        → (l ≡ 53 ∷ [] → ⊥) → (l ≡ 65 ∷ [] → ⊥) → kind_of l ≡ Other
    go [] a b c d e f = refl
    go (x ∷ []) a b c d e f =
        let one : (k : ℕ) → (x ∷ [] ≡ k ∷ [] → ⊥) → eqb x k ≡ false =
        λ k n. ne_eqb x k (λ q. n (ap (λ (y : ℕ). y ∷ []) q)) in
        rw (one 48 a, one 49 b, one 50 c, one 52 d, one 53 e, one 65 f)
    go (x ∷ y ∷ l) a b c d e f = rw (ne_eqb (suc (suc (length l))) 1 (λ q. omega (arith, q)))

-- ─── A flag that says Y ───

yes-is : (l : List ℕ) → is_yes l ≡ true → l ≡ 89 ∷ []
unfolding is_yes
yes-is l e =
    let y = and_both (eqb (length l) 1) (eqb (get_or l 0 0) 89) e in
    go l (eqb-true (length l) 1 y.0) (eqb-true (get_or l 0 0) 89 y.1)
  where
    go : (l : List ℕ) → length l ≡ 1 → get_or l 0 0 ≡ 89 → l ≡ 89 ∷ []
    go [] n c = absurd (omega (arith, n))
    go (x ∷ []) n c = ap (λ (k : ℕ). k ∷ []) c
    go (x ∷ y ∷ l) n c = absurd (omega (arith, n))

pub says-in : (k : ℕ) (fs : List Given) → says_yes k fs ≡ true → In (pair k (89 ∷ [])) (pairs_in fs)
says-in k [] e = absurd (never_true e)
says-in k (f ∷ fs) e = go (eqb f.tag k) refl (is_yes f.text) refl (says-in k fs) e
  where
    go : (a : Bool) → eqb f.tag k ≡ a → (b : Bool) → is_yes f.text ≡ b
        → (says_yes k fs ≡ true → In (pair k (89 ∷ [])) (pairs_in fs)) → (cond a b false || says_yes k fs) ≡ true
        → (pair f.tag f.text ≡ pair k (89 ∷ [])) ⊎ In (pair k (89 ∷ [])) (pairs_in fs)
    go true p true q ih e = inl (rw (eqb-true f.tag k p, yes-is f.text q))
    go true p false q ih e = inr (ih e)
    go false p b q ih e = inr (ih e)

pub in-says : (k : ℕ) (fs : List Given) → In (pair k (89 ∷ [])) (pairs_in fs) → says_yes k fs ≡ true
unfolding is_yes
in-says k [] h = absurd h
in-says k (f ∷ fs) (inl q) =
    let a : f.tag ≡ k = ap (λ (p : Pair). p.tag) q in
    let b : f.text ≡ 89 ∷ [] = ap (λ (p : Pair). p.text) q in
    rw (b, eq-eqb f.tag k a)
in-says k (f ∷ fs) (inr h) = rw (in-says k fs h) (or_right (cond (eqb f.tag k) (is_yes f.text) false))

-- ─── The message that an answer bears ───

some_same : (m k : Message) → some m ≡ some k → m ≡ k
some_same m k e = cc

module _ (m k : Message) (duplicate : Bool) (expected : ℕ) where
  numbered-bears : message_in (numbered_of m duplicate expected).answer ≡ some k → m ≡ k
  unfolding numbered_of
  numbered-bears = go (eqb m.number expected) (ltb expected m.number) duplicate
    where
      go : (x y z : Bool)
          → message_in (cond x (reading (expected + 1) (Next m))
          (cond y (reading expected (Gap m))
          (cond z (reading expected (Again m)) (reading expected (Refused LowNumber))))).answer ≡ some k
          → m ≡ k
      go true y z e = some_same m k e
      go false true z e = some_same m k e
      go false false true e = some_same m k e
      go false false false e = absurd (none-ne-some k e)

  judged-bears : message_in (judged_of m duplicate expected).answer ≡ some k → m ≡ k
  unfolding judged_of
  judged-bears = go (is_reset m.kind) m.fill
    where
      go : (x y : Bool)
          → message_in (cond x (cond y (numbered_of m duplicate expected) (reading expected (Reset m)))
          (numbered_of m duplicate expected)).answer ≡ some k
          → m ≡ k
      go true true e = numbered-bears e
      go true false e = some_same m k e
      go false y e = numbered-bears e

-- The bytes are a frame that rows 28 and 29 pass, and this is its message.
pub record Bears (b : List ℕ) (m : Message) : Type 0 where
  pub name : Span
  pub fields : Span
  pub framed : frame_of b ≡ some_frame name fields
  pub numbers : wrong_numbers (kind_of (text_at b name)) (fields_of (text_at b fields)) ≡ false
  pub tags : wrong_tags (kind_of (text_at b name)) (fields_of (text_at b fields)) ≡ false
  pub same : message_of b name fields ≡ m

passed : (b : List ℕ) (n : ℕ) (name fields : Span) → frame_of b ≡ some_frame name fields
    → wrong_numbers (kind_of (text_at b name)) (fields_of (text_at b fields)) ≡ false
    → wrong_tags (kind_of (text_at b name)) (fields_of (text_at b fields)) ≡ false
    → read_of b n ≡ judged_of (message_of b name fields) (says_yes 43 (fields_of (text_at b fields))) n
unfolding read_of checked_of message_of
passed b n name fields e p q = rw (e, p, q)

pub judged-at : (b : List ℕ) (m : Message) → Bears b m → (n : ℕ)
    → read_of b n ≡ judged_of m (says_yes 43 (fields_of (text_at b m.fields))) n
unfolding message_of
judged-at b m c n =
    subst (λ (x : Message). read_of b n ≡ judged_of x (says_yes 43 (fields_of (text_at b x.fields))) n) c.same
    (passed b n c.name c.fields c.framed c.numbers c.tags)

-- Bytes bear a message, or are refused 28 or 29, whatever number is expected.
pub data Outcome (b : List ℕ) : Type 0 where
  bears : (m : Message) → Bears b m → Outcome b
  no_frame : frame_of b ≡ None → ((n : ℕ) → read_of b n ≡ reading n (Refused NotOneFrame)) → Outcome b
  odd_number : (name fields : Span) → frame_of b ≡ some_frame name fields
      → wrong_numbers (kind_of (text_at b name)) (fields_of (text_at b fields)) ≡ true
      → ((n : ℕ) → read_of b n ≡ reading n (Refused NotOneFrame)) → Outcome b
  odd_tag : (name fields : Span) → frame_of b ≡ some_frame name fields
      → wrong_numbers (kind_of (text_at b name)) (fields_of (text_at b fields)) ≡ false
      → wrong_tags (kind_of (text_at b name)) (fields_of (text_at b fields)) ≡ true
      → ((n : ℕ) → read_of b n ≡ reading n (Refused RequiredTag)) → Outcome b

pub outcome : (b : List ℕ) → Outcome b
unfolding read_of checked_of message_of
outcome b = go (frame_of b) refl
  where
    go : (f : MaybeFrame) → frame_of b ≡ f → Outcome b
    go None e = no_frame e (λ n. rw e)
    go (Some found) e =
        by (wrong_numbers (kind_of (text_at b found.name)) (fields_of (text_at b found.fields))) refl
        (wrong_tags (kind_of (text_at b found.name)) (fields_of (text_at b found.fields))) refl
      where
        by : (x : Bool) → wrong_numbers (kind_of (text_at b found.name)) (fields_of (text_at b found.fields)) ≡ x
            → (y : Bool) → wrong_tags (kind_of (text_at b found.name)) (fields_of (text_at b found.fields)) ≡ y → Outcome b
        by true p y q = odd_number found.name found.fields e p (λ n. rw (e, p))
        by false p true q = odd_tag found.name found.fields e p q (λ n. rw (e, p, q))
        by false p false q =
            bears (message_of b found.name found.fields)
            record { name = found.name; fields = found.fields; framed = e; numbers = p; tags = q; same = refl }

pub read-bears : (b : List ℕ) (expected : ℕ) (m : Message) → message_in (read_of b expected).answer ≡ some m → Bears b m
read-bears b expected m h = go (outcome b)
  where
    go : Outcome b → Bears b m
    go (bears k c) =
        subst (Bears b)
        (judged-bears k m (says_yes 43 (fields_of (text_at b k.fields))) expected (rw (judged-at b k c expected) at h)) c
    go (no_frame e t) = absurd (none-ne-some m (rw (t expected) at h))
    go (odd_number name fields e p t) = absurd (none-ne-some m (rw (t expected) at h))
    go (odd_tag name fields e p q t) = absurd (none-ne-some m (rw (t expected) at h))

-- ─── The type's own values ───

module _ (b : List ℕ) (name fields : Span) (fill : Bool) where
  abbrev run : List ℕ
  run = text_at b fields

  abbrev pairs : List Pair
  pairs = pairs_of run

  abbrev message : Kind → Message
  message kind = message_with b name fields kind fill

  module _ (kind : Kind) (tags : wrong_tags kind (fields_of run) ≡ false) (k : ℕ) (r : has k (required kind) ≡ true)
      (o : eqb 8 k ≡ false) (p : eqb 9 k ≡ false) (q : eqb 35 k ≡ false) (z : eqb 10 k ≡ false) where
    text-only : Only k (text_at b (moved_to fields.start (first_of run k))) pairs
    text-only =
        let t = there kind (fields_of run) tags k r o p q z in
        rw (text-moved b fields k t.text t.first) t.only

    text-number : NumberOrNot (text_at b (moved_to fields.start (first_of run k))) (number_at k (fields_of run))
    text-number =
        let t = there kind (fields_of run) tags k r o p q z in
        let n = number-there kind (fields_of run) tags k r o p q z in
        rw (text-moved b fields k t.text t.first, n) (go t.text (number_in t.text) refl)
      where
        go : (text : List ℕ) (x : Number) → number_in text ≡ x → NumberOrNot text (or_else 0 x)
        go text None e = inr (λ k i. never-number k (sym e ∙ is_number text k i), refl)
        go text (Some n) e = inl (number_is text n e)

  own : (kind : Kind) → wrong_numbers kind (fields_of run) ≡ false → wrong_tags kind (fields_of run) ≡ false
      → Own kind b pairs (message kind)
  unfolding is_number_tag session_number logon_number resend_number
  own Heartbeat n t = (zero_number run, zero_number run, zero-place run fields.start)
  own TestRequest n t = (
    text-only TestRequest t 112 refl refl refl refl refl,
    text-number TestRequest t 112 refl refl refl refl refl,
    zero_number run,
  )
  own ResendRequest n t = (
    says ResendRequest (fields_of run) t 7 refl refl refl refl refl n refl,
    says ResendRequest (fields_of run) t 16 refl refl refl refl refl n refl,
    text-only ResendRequest t 7 refl refl refl refl refl,
  )
  own SequenceReset n t = (
    says SequenceReset (fields_of run) t 36 refl refl refl refl refl n refl,
    zero_number run,
    text-only SequenceReset t 36 refl refl refl refl refl,
  )
  own Logout n t = (zero_number run, zero_number run, zero-place run fields.start)
  own Logon n t = (
    says Logon (fields_of run) t 98 refl refl refl refl refl n refl,
    says Logon (fields_of run) t 108 refl refl refl refl refl n refl,
    text-only Logon t 98 refl refl refl refl refl,
  )
  own Other n t = (zero_number run, zero_number run, zero-place run fields.start)

  -- Every type has 34, and it is a number.
  asks-34 : (kind : Kind) → (has 34 (required kind) ≡ true) × (is_number_tag kind 34 ≡ true)
  unfolding is_number_tag session_number
  asks-34 Heartbeat = (refl, refl)
  asks-34 TestRequest = (refl, refl)
  asks-34 ResendRequest = (refl, refl)
  asks-34 SequenceReset = (refl, refl)
  asks-34 Logout = (refl, refl)
  asks-34 Logon = (refl, refl)
  asks-34 Other = (refl, refl)

  number : (kind : Kind) → wrong_numbers kind (fields_of run) ≡ false → wrong_tags kind (fields_of run) ≡ false
      → Says 34 (number_at 34 (fields_of run)) pairs
  number kind n t = says kind (fields_of run) t 34 (asks-34 kind).0 refl refl refl refl n (asks-34 kind).1

-- ─── As the statement asks for it ───

message-values : (b : List ℕ) (name fields : Span) → frame_of b ≡ some_frame name fields
    → wrong_numbers (kind_of (text_at b name)) (fields_of (text_at b fields)) ≡ false
    → wrong_tags (kind_of (text_at b name)) (fields_of (text_at b fields)) ≡ false
    → Values b (pairs_of (text_at b fields)) (message_of b name fields)
unfolding message_of
message-values b name fields e n t =
    let kind = kind_of (text_at b name) in
    let fill = says_yes 123 (fields_of (text_at b fields)) in
    record {
      same = frame_same b name fields (outlined name fields b (whole b name fields e).outline);
      kind = kind-is (text_at b name);
      number = number b name fields fill kind n t;
      own = own b name fields fill kind n t;
      fills = says-in 123 (fields_of (text_at b fields));
      filled = in-says 123 (fields_of (text_at b fields));
    }

values : (b : List ℕ) (expected : ℕ) (m : Message) → message_in (read_of b expected).answer ≡ some m
    → Values b (pairs_of (text_at b m.fields)) m
unfolding message_of
values b expected m h =
    let c = read-bears b expected m h in
    subst (λ (x : Message). Values b (pairs_of (text_at b x.fields)) x) c.same
    (message-values b c.name c.fields c.framed c.numbers c.tags)

pub frame-values : FrameValues
frame-values = record { values = values }
