-- `FrameNumberLaws` holds. Assumes nothing.
use Prim.Native.Nat.{ℕ, ◌+◌}
use native.Mathlib.Omega.{arith}
use mathlib.Core.Path.{◌≡◌, refl, sym, ap, ◌∙◌}
use mathlib.Core.Bool.{Bool, true, false, not}
use mathlib.Core.Option.{none, some}
use lib.Dec.{eqb}
use Rattle.ftd.specs.Follow.{Follows}
use Rattle.ftd.proofs.Follow.{follows}
use Rattle.fix.specs.Types.{Number}
use Rattle.fix.specs.declared.kinds.Kind.{Kind}
use Rattle.fix.specs.declared.kinds.Kind.TheVariants.{Heartbeat, TestRequest, ResendRequest, SequenceReset}
use Rattle.fix.specs.declared.kinds.Kind.TheVariants.{Logout, Logon, Other}
use Rattle.fix.specs.declared.read.Message.{Message}
use Rattle.fix.specs.declared.read.Judged.{Judged}
use Rattle.fix.specs.declared.read.Judged.TheVariants.{Refused, Next, Again, Gap, Reset}
use Rattle.fix.specs.declared.read.Reading.{Reading}
use Rattle.fix.specs.Read.{read_of}
use Rattle.fix.specs.Follow.{Event, frame, set_to, number_if_next, is_set}
use Rattle.fix.proofs.Follow.{frames-law}
use Rattle.exports.specs.declared.frames.FtdTagged.{FtdTagged}
use Rattle.exports.specs.declared.frames.FtdNumber.{FtdNumber}
use Rattle.exports.specs.Numbers.{flag}
use Rattle.exports.specs.Frames.{kind_number, said_numbers, judged_numbers, front_numbers, text_numbers}
use Rattle.exports.specs.Frames.Laws.{kind_for, message_for, TurnedAway, left_expected, told_next, took_next}
use Rattle.exports.specs.Frames.Laws.{readings, FrameNumberLaws}
use Rattle.std.specs.Prelude.{Some, None}
use Rattle.fix.specs.Types.{MaybeFront}

kind-back : (k : Kind) → kind_for (kind_number k) ≡ k
unfolding kind_for
kind-back Heartbeat = refl
kind-back TestRequest = refl
kind-back ResendRequest = refl
kind-back SequenceReset = refl
kind-back Logout = refl
kind-back Logon = refl
kind-back Other = refl

flag-back : (b : Bool) → not (eqb (flag b) 0) ≡ b
flag-back true = refl
flag-back false = refl

back : (expected answer : ℕ) (m : Message) → message_for (said_numbers expected answer m) ≡ m
unfolding message_for
back expected answer m = rw (kind-back m.kind, flag-back m.fill) refl

refused : (e : ℕ) (a : Judged) → (judged_numbers e a).answer ≡ 0 → TurnedAway a (judged_numbers e a).refusal
refused e (Refused r) h = record { row = r; turned = refl; numbered = refl }
refused e (Next m) h = absurd (omega (arith, h))
refused e (Again m) h = absurd (omega (arith, h))
refused e (Gap m) h = absurd (omega (arith, h))
refused e (Reset m) h = absurd (omega (arith, h))

next : (e : ℕ) (a : Judged) → (judged_numbers e a).answer ≡ 1 → a ≡ Next (message_for (judged_numbers e a))
next e (Refused r) h = absurd (omega (arith, h))
next e (Next m) h = rw (back e 1 m) refl
next e (Again m) h = absurd (omega (arith, h))
next e (Gap m) h = absurd (omega (arith, h))
next e (Reset m) h = absurd (omega (arith, h))

again : (e : ℕ) (a : Judged) → (judged_numbers e a).answer ≡ 2 → a ≡ Again (message_for (judged_numbers e a))
again e (Refused r) h = absurd (omega (arith, h))
again e (Next m) h = absurd (omega (arith, h))
again e (Again m) h = rw (back e 2 m) refl
again e (Gap m) h = absurd (omega (arith, h))
again e (Reset m) h = absurd (omega (arith, h))

gap : (e : ℕ) (a : Judged) → (judged_numbers e a).answer ≡ 3 → a ≡ Gap (message_for (judged_numbers e a))
gap e (Refused r) h = absurd (omega (arith, h))
gap e (Next m) h = absurd (omega (arith, h))
gap e (Again m) h = absurd (omega (arith, h))
gap e (Gap m) h = rw (back e 3 m) refl
gap e (Reset m) h = absurd (omega (arith, h))

reset : (e : ℕ) (a : Judged) → (judged_numbers e a).answer ≡ 4 → a ≡ Reset (message_for (judged_numbers e a))
reset e (Refused r) h = absurd (omega (arith, h))
reset e (Next m) h = absurd (omega (arith, h))
reset e (Again m) h = absurd (omega (arith, h))
reset e (Gap m) h = absurd (omega (arith, h))
reset e (Reset m) h = rw (back e 4 m) refl

expected : (e : ℕ) (a : Judged) → (judged_numbers e a).expected ≡ e
expected e (Refused r) = refl
expected e (Next m) = refl
expected e (Again m) = refl
expected e (Gap m) = refl
expected e (Reset m) = refl

-- ─── The numbers told as next: those of the reader ───

told : (e : ℕ) (a : Judged) → told_next (judged_numbers e a) ≡ number_if_next a
told e (Refused r) = refl
told e (Next m) = refl
told e (Again m) = refl
told e (Gap m) = refl
told e (Reset m) = refl

starts : (s : ℕ) (e : Event) → is_set s e ≡ true → took_next s e ≡ none
starts s (frame b) a = cc
starts s (set_to n) a = refl

takes : (s : ℕ) (e : Event) (n : ℕ) → is_set s e ≡ false → took_next s e ≡ some n → (n ≡ s) × (left_expected s e ≡ n + 1)
takes s (frame b) n a t =
    let r : Reading = read_of b s in
    let did = frames-law.next s (frame b) n a (sym (told r.expected r.answer) ∙ t) in
    (did.0, expected r.expected r.answer ∙ did.1)
takes s (set_to k) n a t = (cc, cc)

stays : (s : ℕ) (e : Event) → is_set s e ≡ false → took_next s e ≡ none → left_expected s e ≡ s
stays s (frame b) a t =
    let r : Reading = read_of b s in
    expected r.expected r.answer ∙ frames-law.stays s (frame b) a (sym (told r.expected r.answer) ∙ t)
stays s (set_to k) a t = cc

follow : Follows readings
follow = follows readings (record { starts = starts; next = takes; stays = stays })

field : (x y : MaybeFront) → front_numbers x ≡ front_numbers y → x ≡ y
field None None e = refl
field None (Some found) e =
    let z : ◌≡◌ {A = ℕ} 0 1 = ap (λ (f : FtdTagged). f.found) e in absurd (omega arith)
field (Some found) None e =
    let z : ◌≡◌ {A = ℕ} 1 0 = ap (λ (f : FtdTagged). f.found) e in absurd (omega arith)
field (Some found) (Some found1) e =
    let tag : found.tag ≡ found1.tag = ap (λ (f : FtdTagged). f.tag) e in
    let start : found.start ≡ found1.start = ap (λ (f : FtdTagged). f.start) e in
    let len : found.len ≡ found1.len = ap (λ (f : FtdTagged). f.len) e in
    rw (tag, start, len) refl

number : (x y : Number) → text_numbers x ≡ text_numbers y → x ≡ y
number None None e = refl
number None (Some n) e = let z : ◌≡◌ {A = ℕ} 0 1 = ap (λ (f : FtdNumber). f.found) e in absurd (omega arith)
number (Some n) None e = let z : ◌≡◌ {A = ℕ} 1 0 = ap (λ (f : FtdNumber). f.found) e in absurd (omega arith)
number (Some n) (Some m) e = let same : n ≡ m = ap (λ (f : FtdNumber). f.number) e in rw same refl

pub frame-number-laws : FrameNumberLaws
frame-number-laws =
    record {
      back = back;
      refused = λ x. refused x.expected x.answer;
      next = λ x. next x.expected x.answer;
      again = λ x. again x.expected x.answer;
      gap = λ x. gap x.expected x.answer;
      reset = λ x. reset x.expected x.answer;
      expected = λ x. expected x.expected x.answer;
      follow = follow;
      field = field;
      number = number;
    }
