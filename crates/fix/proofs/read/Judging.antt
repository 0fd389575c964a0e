-- What the reader's tests say, over plain variables. Assumes nothing.
use Prim.Native.Nat.{ℕ, ◌+◌, ◌-◌, ◌<◌, ◌≤◌}
use mathlib.Core.Path.{◌≡◌, ap, ◌∙◌}
use mathlib.Core.List.{List}
use mathlib.Core.Bool.{Bool, true, false, cond}
use native.Mathlib.Omega.{arith}
use borrow.Author.Tests.{lt-ltb, le-ltb, eq-eqb, ne_eqb}
use lib.ListN.{length, take, drop, length-take}
use Rattle.ftd.specs.Bytes.{part}
use Rattle.ftd.specs.Packet.{span}
use Rattle.ftd.specs.declared.packet.Span.{Span}
use Rattle.ftd.specs.declared.refusal.Refusal.TheVariants.{NotOneFrame, RequiredTag, LowNumber}
use Rattle.fix.specs.declared.kinds.Kind.{Kind}
use Rattle.fix.specs.declared.tally.Walked.{Walked}
use Rattle.fix.specs.declared.read.Message.{Message}
use Rattle.fix.specs.declared.read.Judged.TheVariants.{Refused, Next, Again, Gap, Reset}
use Rattle.fix.specs.declared.read.Reading.{Reading}
use Rattle.fix.specs.Kinds.{kind_of, first_tag, second_tag, is_reset}
use Rattle.fix.specs.Fields.{fields_of, is_whole, first_of, number_at, says_yes}
use Rattle.fix.specs.FieldPlaces.{PlaceInside, MovesIn}
use Rattle.fix.specs.Tally.{no_tally, tallied_from, walked_of, numbers_wrong, tags_wrong}
use Rattle.fix.specs.Check.{wrong_numbers, wrong_tags}
use Rattle.fix.specs.Frame.{outline_of, if_whole, frame_of, FrameInside}
use Rattle.fix.specs.Read.{moved_to, message_with, message_of, reading, numbered_of, judged_of, checked_of, framed_of, read_of}
use Rattle.fix.proofs.tally.Links.{links-numbers, links-tags, links-duplicate, links-fill}
use Rattle.std.specs.Prelude.{Some, None}
use Rattle.fix.specs.Types.{MaybeFront, some_front, MaybeFrame, some_frame}

-- ─── Places moved on ───

pub moved_none : (at : ℕ) (f : MaybeFront) → f ≡ None → span 0 0 ≡ moved_to at f
moved_none at f e = rw e

pub moved-some : (at tag start len : ℕ) (f : MaybeFront) → f ≡ some_front tag start len → span (at + start) len ≡ moved_to at f
moved-some at tag start len f e = rw e

pub moved-fits : (at tag start len : ℕ) (f : MaybeFront) → MovesIn at f → f ≡ some_front tag start len
    → at + start < 18446744073709551616
moved-fits at tag start len f h e = let z : at + start ≤ 18446744073709551615 = rw e at h in omega arith

pub moves-in : (b : List ℕ) (start end : ℕ) (f : MaybeFront) → PlaceInside (take (end - start) (drop start b)) f
    → end ≤ 18446744073709551615 → MovesIn start f
moves-in b start end None h m = tt
moves-in b start end (Some found) h m =
    let z = length-take (end - start) (drop start b) in omega (arith, z)

-- ─── The message ───

pub part-is : (b : List ℕ) (start len : ℕ) → take (start + len - start) (drop start b) ≡ part b start len
part-is b start len = let e : start + len - start ≡ len = omega arith in rw e

pub message-made : (b : List ℕ) (name fields : Span) (kind : Kind) (fill : Bool) (run : List ℕ)
    → run ≡ take (fields.start + fields.len - fields.start) (drop fields.start b)
    → (one two number first second : ℕ) (front : MaybeFront) (text : Span) → one ≡ first_tag kind → two ≡ second_tag kind
    → number ≡ number_at 34 (fields_of run) → first ≡ number_at one (fields_of run) → second ≡ number_at two (fields_of run)
    → front ≡ first_of run one → text ≡ moved_to fields.start front
    → ◌≡◌ {A = Message} record {
      kind = kind;
      name = name;
      fields = fields;
      number = number;
      first = first;
      second = second;
      text = text;
      fill = fill;
    } (message_with b name fields kind fill)
message-made b name fields kind fill run r one two number first second front text p q n f s g t =
    let e : run ≡ part b fields.start fields.len = r ∙ part-is b fields.start fields.len in
    rw (n, f, s, t, g, p, q, e)

-- ─── By the number ───

module _ (m : Message) (duplicate : Bool) (expected : ℕ) where
  pub numbered_next : m.number ≡ expected → reading (expected + 1) (Next m) ≡ numbered_of m duplicate expected
  unfolding numbered_of
  numbered_next e = rw (eq-eqb m.number expected e)

  module _ (n : m.number ≡ expected → ⊥) where
    pub numbered-gap : expected < m.number → reading expected (Gap m) ≡ numbered_of m duplicate expected
    unfolding numbered_of
    numbered-gap h = rw (ne_eqb m.number expected n, lt-ltb expected m.number h)

    module _ (h : m.number ≤ expected) where
      pub numbered-again : duplicate ≡ true → reading expected (Again m) ≡ numbered_of m duplicate expected
      unfolding numbered_of
      numbered-again d = rw (ne_eqb m.number expected n, le-ltb expected m.number h, d)

      pub numbered-low : duplicate ≡ false → (r : Reading) → r ≡ reading expected (Refused LowNumber)
          → r ≡ numbered_of m duplicate expected
      unfolding numbered_of
      numbered-low d r e = e ∙ rw (ne_eqb m.number expected n, le-ltb expected m.number h, d)

  module _ (x : Bool) (k : x ≡ is_reset m.kind) where
    pub judge-fill : x ≡ true → m.fill ≡ true → (r : Reading) → r ≡ numbered_of m duplicate expected
        → r ≡ judged_of m duplicate expected
    unfolding judged_of
    judge-fill t f r e = e ∙ rw (← k, t, f)

    pub judge-reset : x ≡ true → m.fill ≡ false → reading expected (Reset m) ≡ judged_of m duplicate expected
    unfolding judged_of
    judge-reset t f = rw (← k, t, f)

    pub judge-other : x ≡ false → (r : Reading) → r ≡ numbered_of m duplicate expected
        → r ≡ judged_of m duplicate expected
    unfolding judged_of
    judge-other t r e = e ∙ rw (← k, t)

-- ─── The fields, by what one walk over them keeps ───

module _ (b : List ℕ) (name fields : Span) (expected : ℕ) (kind : Kind)
    (k : kind ≡ kind_of (take (name.start + name.len - name.start) (drop name.start b))) (w : Walked)
    (e : w ≡ walked_of kind (take (fields.start + fields.len - fields.start) (drop fields.start b))) where
  kind-is : kind_of (part b name.start name.len) ≡ kind
  kind-is = rw (k, part-is b name.start name.len)

  walk_is : w ≡ walked_of kind (part b fields.start fields.len)
  walk_is = rw (part-is b fields.start fields.len) at e

  walk-whole : w.whole ≡ is_whole (part b fields.start fields.len)
  unfolding walked_of is_whole
  walk-whole = ap (λ (x : Walked). x.whole) walk_is

  tally-is : w.tally ≡ tallied_from kind no_tally (fields_of (part b fields.start fields.len))
  unfolding walked_of
  tally-is = ap (λ (x : Walked). x.tally) walk_is

  numbers-are : numbers_wrong kind w.tally ≡ wrong_numbers kind (fields_of (part b fields.start fields.len))
  numbers-are = rw tally-is (links-numbers kind (fields_of (part b fields.start fields.len)))

  tags-are : tags_wrong kind w.tally ≡ wrong_tags kind (fields_of (part b fields.start fields.len))
  tags-are = rw tally-is (links-tags kind (fields_of (part b fields.start fields.len)))

  duplicate-is : w.tally.duplicate ≡ says_yes 43 (fields_of (part b fields.start fields.len))
  duplicate-is = rw tally-is (links-duplicate kind (fields_of (part b fields.start fields.len)))

  fill_is : w.tally.fill ≡ says_yes 123 (fields_of (part b fields.start fields.len))
  fill_is = rw tally-is (links-fill kind (fields_of (part b fields.start fields.len)))

  message-is : (m : Message) → m ≡ message_with b name fields kind w.tally.fill → m ≡ message_of b name fields
  unfolding message_of
  message-is m q = q ∙ rw (fill_is, kind-is)

  pub no_run : w.whole ≡ false → (r : Reading) → r ≡ reading expected (Refused NotOneFrame)
      → r ≡ framed_of b expected (if_whole b (some_frame name fields))
  no_run f r q = q ∙ rw (← walk-whole, f)

  module _ (f : w.whole ≡ true) where
    checked : framed_of b expected (if_whole b (some_frame name fields))
        ≡ cond (numbers_wrong kind w.tally) (reading expected (Refused NotOneFrame))
        (cond (tags_wrong kind w.tally) (reading expected (Refused RequiredTag))
        (judged_of (message_of b name fields) w.tally.duplicate expected))
    unfolding checked_of message_of
    checked = rw (← walk-whole, f, kind-is, numbers-are, tags-are, duplicate-is)

    module _ (x : Bool) (n : x ≡ numbers_wrong kind w.tally) where
      pub number-wrong : x ≡ true → (r : Reading) → r ≡ reading expected (Refused NotOneFrame)
          → r ≡ framed_of b expected (if_whole b (some_frame name fields))
      number-wrong t r q = q ∙ rw (checked, ← n, t)

      module _ (t : x ≡ false) (y : Bool) (g : y ≡ tags_wrong kind w.tally) where
        pub tag-wrong : y ≡ true → (r : Reading) → r ≡ reading expected (Refused RequiredTag)
            → r ≡ framed_of b expected (if_whole b (some_frame name fields))
        tag-wrong u r q = q ∙ rw (checked, ← n, t, ← g, u)

        pub both_right : y ≡ false → (m : Message) → m ≡ message_with b name fields kind w.tally.fill
            → (r : Reading) → r ≡ judged_of m w.tally.duplicate expected
            → r ≡ framed_of b expected (if_whole b (some_frame name fields))
        both_right u m p r q = q ∙ rw (checked, ← n, t, ← g, u, message-is m p)

-- ─── The frame ───

module _ (b : List ℕ) (expected : ℕ) (f : MaybeFrame) (e : f ≡ outline_of b) where
  pub read_none : f ≡ None → (r : Reading) → r ≡ reading expected (Refused NotOneFrame) → r ≡ read_of b expected
  unfolding read_of frame_of
  read_none n r q = q ∙ rw (← e, n)

  pub read_some : (name fields : Span) → f ≡ some_frame name fields → (r : Reading)
      → r ≡ framed_of b expected (if_whole b (some_frame name fields)) → r ≡ read_of b expected
  unfolding read_of frame_of
  read_some name fields n r q = q ∙ rw (← e, n)

pub places-inside : (b : List ℕ) (f : MaybeFrame) (name fields : Span) → FrameInside b f → f ≡ some_frame name fields
    → (name.start + name.len ≤ length b) × (fields.start + fields.len ≤ length b)
places-inside b f name fields h e = rw e at h
