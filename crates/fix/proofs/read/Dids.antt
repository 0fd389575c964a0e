-- What one read does with the number expected. Assumes nothing.
use Prim.Native.Nat.{ℕ, ◌+◌}
use mathlib.Core.Path.{◌≡◌, refl, ap}
use mathlib.Core.Bool.{Bool, true, false, cond}
use mathlib.Core.Option.{none, some}
use borrow.Author.Tests.{eqb-true}
use lib.Dec.{ltb, eqb}
use Rattle.ftd.specs.declared.refusal.Refusal.TheVariants.{LowNumber}
use Rattle.fix.specs.declared.read.Message.{Message}
use Rattle.fix.specs.declared.read.Judged.TheVariants.{Refused, Next, Again, Gap}
use Rattle.fix.specs.declared.read.Reading.{Reading}
use Rattle.fix.specs.Read.{reading, numbered_of}
use Rattle.fix.specs.Follow.{number_if_next}

pub data Did (expected : ℕ) (r : Reading) : Type 0 where
  stays : number_if_next r.answer ≡ none → r.expected ≡ expected → Did expected r
  takes : number_if_next r.answer ≡ some expected → r.expected ≡ expected + 1 → Did expected r

module _ (m : Message) (duplicate : Bool) (expected : ℕ) where
  pub numbered-did : Did expected (numbered_of m duplicate expected)
  unfolding numbered_of
  numbered-did = go (eqb m.number expected) refl (ltb expected m.number) duplicate
    where
      go : (x : Bool) → eqb m.number expected ≡ x → (y z : Bool) → Did expected
          (cond x (reading (expected + 1) (Next m))
          (cond y (reading expected (Gap m)) (cond z (reading expected (Again m)) (reading expected (Refused LowNumber)))))
      go true e y z = takes (ap some (eqb-true m.number expected e)) refl
      go false e true z = stays refl refl
      go false e false true = stays refl refl
      go false e false false = stays refl refl
