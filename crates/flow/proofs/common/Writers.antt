-- What a writer of ftd answers and leaves, where nothing is wrong with the values. Assumes nothing.
use Prim.Native.Nat.{ℕ}
use mathlib.Core.Path.{◌≡◌, refl}
use mathlib.Core.List.{List}
use mathlib.Core.Bool.{cond}
use lib.ListN.{length}
use lib.Dec.{ltb}
use Rattle.ftd.specs.Write.{Verdict, fine, written_answer, written_output}
use Rattle.ftd.specs.declared.refusal.Refusal.TheVariants.{TooSmall}
use Rattle.ftd.specs.Types.{Written}
use Rattle.flow.specs.Ends.{over}
use Rattle.std.specs.Prelude.{Ok, Err}
use Rattle.ftd.specs.declared.write.WriteError.TheVariants.{Refused}

-- Content that 7 lets pass is refused for want of room only.
module _ (v : Verdict) (f : v ≡ fine) (bytes out : List ℕ) where
  pub fine-answer : written_answer v bytes out
      ≡ cond (ltb (length out) (length bytes)) (Err (Refused TooSmall)) (Ok (length bytes))
  unfolding written_answer
  fine-answer = rw f

  pub fine-output : written_output v bytes out ≡ cond (ltb (length out) (length bytes)) out (over bytes out)
  unfolding written_output
  fine-output = rw f

-- An answer of the writer other than how many bytes were written.
abbrev pub Otherwise : Written → Type 0
Otherwise w = (n : ℕ) → w ≡ Ok n → ⊥

pub not-bytes : (n : ℕ) → Otherwise (Ok n) → ⊥
not-bytes n h = h n refl
