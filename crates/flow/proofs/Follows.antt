-- The numbers that a receiving end takes follow each other. Assumes nothing.
use Prim.Native.Nat.{ℕ, ◌+◌}
use native.Mathlib.Omega.{arith}
use mathlib.Core.Path.{◌≡◌, refl, sym, ◌∙◌}
use mathlib.Core.Logic.{◌⊎◌, inl, inr}
use mathlib.Core.Bool.{Bool, true, false}
use mathlib.Core.Option.{Option, none, some, none-ne-some}
use borrow.Author.Tests.{lt-ltb}
use lib.Dec.{T}
use Rattle.ftd.specs.Bench.{all_same}
use Rattle.ftd.specs.Follow.{NumberedLaw}
use Rattle.ftd.specs.Types.{TradeDate}
use Rattle.ftd.proofs.Follow.{follows}
use Rattle.flow.specs.Follows.{rises, of_series, example_rows, NumbersFollow}
use Rattle.flow.proofs.common.Bools.{clash}
use Rattle.flow.proofs.common.Days.{Above}
use Rattle.flow.proofs.bench.Opened.{opened}
use Rattle.flow.proofs.numbers.Does.{Does, nothing, next, opens, begins, call-does, told}
use Rattle.flow.proofs.numbers.Days.{stretch, from-fresh}
use Rattle.std.specs.Prelude.{Some, None}

-- What one call does, as each clause asks for it.
module _ (date : TradeDate) (last : ℕ) (anew : Bool) (took : Option ℕ) (day after : TradeDate) (n : ℕ) where
  starts : Does date last anew took day after n → anew ≡ true → took ≡ none
  starts (nothing a t x y) q = t
  starts (next a t b x y) q = clash anew q a
  starts (opens a t b x y) q = t
  starts (begins d a t x b y) q = t

  takes-next : Does date last anew took day after n → (k : ℕ) → anew ≡ false → took ≡ some k
      → (k ≡ last + 1) × (n + 1 ≡ k + 1)
  takes-next (nothing a t x y) k q r = absurd (none-ne-some k (sym t ∙ r))
  takes-next (next a t b x y) k q r = let z : k ≡ last + 1 = cc in (z, omega arith)
  takes-next (opens a t b x y) k q r = clash anew a q
  takes-next (begins d a t x b y) k q r = clash anew a q

  stays : Does date last anew took day after n → anew ≡ false → took ≡ none → n + 1 ≡ last + 1
  stays (nothing a t x y) q r = omega arith
  stays (next a t b x y) q r = absurd (none-ne-some (last + 1) (sym r ∙ t))
  stays (opens a t b x y) q r = clash anew a q
  stays (begins d a t x b y) q r = clash anew a q

  from_one : Does date last anew took day after n → anew ≡ true → n + 1 ≡ 1
  from_one (nothing a t x y) q = clash anew q a
  from_one (next a t b x y) q = clash anew q a
  from_one (opens a t b x y) q = omega arith
  from_one (begins d a t x b y) q = omega arith

  above-rises : (d : ℕ) (was : TradeDate) → Above d was → rises was (Some d) ≡ true
  above-rises d None h = refl
  above-rises d (Some k) h = lt-ltb k d h

  days : Does date last anew took day after n → (after ≡ date) ⊎ (rises date after ≡ true)
  days (nothing a t x y) = inl x
  days (next a t b x y) = inl x
  days (opens a t b x y) = inl (x ∙ sym b)
  days (begins d a t x b y) = inr (rw x (above-rises d date b))

pub law : (s : ℕ) → NumberedLaw (of_series s)
law s =
    record {
      starts = λ v c. starts _ _ _ _ _ _ _ (call-does s v c);
      next = λ v c k. takes-next _ _ _ _ _ _ _ (call-does s v c) k;
      stays = λ v c. stays _ _ _ _ _ _ _ (call-does s v c);
    }

example : T (all_same example_rows)
unfolding opened
example = tt

pub numbers-follow : NumbersFollow
numbers-follow =
    record {
      follows = λ s. follows (of_series s) (law s);
      from_one = λ s v c. from_one _ _ _ _ _ _ _ (call-does s v c);
      days = λ s v c. days _ _ _ _ _ _ _ (call-does s v c);
      stretch = stretch;
      fresh = from-fresh;
      told = told;
      example = example;
    }
