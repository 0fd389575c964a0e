-- The numbers that the reader calls next follow each other. Assumes nothing.
use Prim.Native.Nat.{ℕ, ◌+◌}
use mathlib.Core.Path.{◌≡◌, refl, sym, ◌∙◌}
use mathlib.Core.List.{List}
use mathlib.Core.Bool.{Bool, true, false, cond}
use mathlib.Core.Option.{none, some, none-ne-some}
use Rattle.ftd.specs.Follow.{NumberedLaw, Follows}
use Rattle.ftd.proofs.Follow.{follows}
use Rattle.ftd.specs.declared.refusal.Refusal.TheVariants.{NotOneFrame, RequiredTag}
use Rattle.fix.specs.declared.read.Message.{Message}
use Rattle.fix.specs.declared.read.Judged.TheVariants.{Refused, Reset}
use Rattle.fix.specs.declared.read.Reading.{Reading}
use Rattle.fix.specs.Kinds.{is_reset}
use Rattle.fix.specs.Fields.{Given, says_yes}
use Rattle.fix.specs.Check.{wrong_numbers, wrong_tags}
use Rattle.fix.specs.Frame.{frame_of}
use Rattle.fix.specs.Read.{reading, numbered_of, judged_of, checked_of, framed_of, read_of}
use Rattle.ftd.specs.Return.{Returns}
use Rattle.ftd.proofs.Return.{returns}
use Rattle.fix.specs.Follow.{ComesBack}
use Rattle.fix.specs.Follow.{Event, frame, set_to, number_if_next, took_number, is_set, expected_then, frames}
use Rattle.fix.proofs.read.Dids.{Did, stays, takes, numbered-did}
use Rattle.std.specs.Prelude.{Some, None}
use Rattle.fix.specs.Types.{MaybeFrame}

module _ (m : Message) (duplicate : Bool) (expected : ℕ) where
  judged-did : Did expected (judged_of m duplicate expected)
  unfolding judged_of
  judged-did = go (is_reset m.kind) m.fill
    where
      go : (x y : Bool) → Did expected
          (cond x (cond y (numbered_of m duplicate expected) (reading expected (Reset m)))
          (numbered_of m duplicate expected))
      go true true = numbered-did m duplicate expected
      go true false = stays refl refl
      go false y = numbered-did m duplicate expected

checked-did : (m : Message) (fs : List Given) (expected : ℕ) → Did expected (checked_of m fs expected)
unfolding checked_of
checked-did m fs expected = go (wrong_numbers m.kind fs) (wrong_tags m.kind fs)
  where
    go : (x y : Bool) → Did expected
        (cond x (reading expected (Refused NotOneFrame))
        (cond y (reading expected (Refused RequiredTag)) (judged_of m (says_yes 43 fs) expected)))
    go true y = stays refl refl
    go false true = stays refl refl
    go false false = judged-did m (says_yes 43 fs) expected

framed-did : (b : List ℕ) (expected : ℕ) (f : MaybeFrame) → Did expected (framed_of b expected f)
framed-did b expected None = stays refl refl
framed-did b expected (Some found) = checked-did _ _ expected

pub read-did : (b : List ℕ) (expected : ℕ) → Did expected (read_of b expected)
unfolding read_of
read-did b expected = framed-did b expected (frame_of b)

-- ─── As the statement asks for it ───

starts : (expected : ℕ) (e : Event) → is_set expected e ≡ true → took_number expected e ≡ none
starts expected (frame b) a = cc
starts expected (set_to n) a = refl

did-next : (expected : ℕ) (r : Reading) (n : ℕ) → Did expected r → number_if_next r.answer ≡ some n
    → (n ≡ expected) × (r.expected ≡ n + 1)
did-next expected r n (stays t e) q = absurd (none-ne-some n (sym t ∙ q))
did-next expected r n (takes t e) q = let z : n ≡ expected = cc in (z, rw z e)

next : (expected : ℕ) (e : Event) (n : ℕ) → is_set expected e ≡ false → took_number expected e ≡ some n
    → (n ≡ expected) × (expected_then expected e ≡ n + 1)
next expected (frame b) n a t = did-next expected (read_of b expected) n (read-did b expected) t
next expected (set_to k) n a t = (cc, cc)

pub did-stay : (expected : ℕ) (r : Reading) → Did expected r → number_if_next r.answer ≡ none → r.expected ≡ expected
did-stay expected r (stays t e) q = e
did-stay expected r (takes t e) q = absurd (none-ne-some expected (sym q ∙ t))

stay : (expected : ℕ) (e : Event) → is_set expected e ≡ false → took_number expected e ≡ none
    → expected_then expected e ≡ expected
stay expected (frame b) a t = did-stay expected (read_of b expected) (read-did b expected) t
stay expected (set_to k) a t = cc

pub frames-law : NumberedLaw frames
frames-law = record { starts = starts; next = next; stays = stay }

pub frames-follow : Follows frames
frames-follow = follows frames frames-law

-- Also over what counts where the caller comes back to a number that it kept.
pub frames-return : Returns frames ComesBack
frames-return = returns frames frames-law ComesBack λ s t b q. q
