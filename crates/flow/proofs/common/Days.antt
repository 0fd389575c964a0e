-- Days in their order, as tests and as types. Assumes nothing.
use Prim.Native.Nat.{ℕ, ◌<◌, ◌≤◌}
use native.Mathlib.Omega.{arith}
use mathlib.Core.Path.{◌≡◌, refl, ap, sym}
use mathlib.Core.Bool.{true, false}
use borrow.Author.Tests.{leb-true, leb-false, le-leb, lt-leb, eqb-true, ne_eqb, not-false, ltb-false, eqb-false}
use borrow.Author.Tests.{not-true}
use lib.Dec.{leb, eqb}
use Rattle.ftd.specs.Types.{TradeDate}
use Rattle.flow.specs.Ends.{up_to, is_day, differs, before}
use Rattle.flow.proofs.common.Bools.{clash}
use Rattle.std.specs.Prelude.{Some, None}

-- A day above one that is above the present one is above the present one.
pub above-along : (d m : ℕ) (t : TradeDate) → up_to m t ≡ false → leb d m ≡ false → up_to d t ≡ false
above-along d m None a b = refl
above-along d m (Some e) a b = let g = leb-false m e a in let h = leb-false d m b in lt-leb d e (omega arith)

-- A day up to the present one is up to one above it.
pub up_to-rises : (d m : ℕ) (t : TradeDate) → up_to m t ≡ false → up_to d t ≡ true → leb d m ≡ true
up_to-rises d m None a b = cc
up_to-rises d m (Some e) a b = let g = leb-false m e a in let h = leb-true d e b in le-leb d m (omega arith)

pub above_other : (d : ℕ) (t : TradeDate) → up_to d t ≡ false → is_day d t ≡ false
above_other d None a = refl
above_other d (Some e) a = let g = leb-false d e a in ne_eqb e d λ h. omega arith

pub day-is : (d : ℕ) (t : TradeDate) → is_day d t ≡ true → t ≡ Some d
day-is d None a = let z : ◌≡◌ {A = ℕ} 0 1 = cc in absurd (omega arith)
day-is d (Some e) a = ap Some (eqb-true e d a)

pub up_to-self : (d : ℕ) → up_to d (Some d) ≡ true
up_to-self d = le-leb d d (omega arith)

-- A day that does not differ from the kept one is it.
pub day-same : (d : ℕ) (x : TradeDate) → differs (Some d) x ≡ false → x ≡ Some d
day-same d None q = clash true refl q
day-same d (Some y) q = ap Some (sym (eqb-true d y (not-false (eqb d y) q)))

-- ─── As types ───

-- No day, or one that is earlier.
abbrev pub Above : ℕ → TradeDate → Type 0
Above d None = Unit {0}
Above d (Some c) = c < d

-- No day, or one that is at most the other.
abbrev pub Upto : TradeDate → TradeDate → Type 0
Upto None o = Unit {0}
Upto (Some a) None = ⊥
Upto (Some a) (Some b) = a ≤ b

pub upto-same : (a : TradeDate) → Upto a a
upto-same None = tt
upto-same (Some a) = omega arith

pub upto-along : (a b c : TradeDate) → Upto a b → Upto b c → Upto a c
upto-along None b c h k = tt
upto-along (Some a) None c h k = absurd h
upto-along (Some a) (Some b) None h k = absurd k
upto-along (Some a) (Some b) (Some c) h k = omega arith

pub upto-test : (d : ℕ) (o : TradeDate) → up_to d o ≡ true → Upto (Some d) o
upto-test d None q = clash _ q refl
upto-test d (Some e) q = leb-true d e q

-- A day that is not before the kept one and differs from it is above it.
pub above_new : (d : ℕ) (date : TradeDate) → before (Some d) date ≡ false → differs (Some d) date ≡ true → Above d date
above_new d None q n = tt
above_new d (Some y) q n = let l = ltb-false d y q in let k = eqb-false d y (not-true (eqb d y) n) in below y d l k
  where
    below : (y d : ℕ) → y ≤ d → (d ≡ y → ⊥) → y < d
    below y d l n = omega arith
