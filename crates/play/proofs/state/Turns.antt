-- The state's lines, one behind the other, over plain variables. Assumes nothing.
use Prim.Native.Nat.{ℕ, ◌+◌, ◌<◌, ◌≤◌, min}
use mathlib.Core.Path.{◌≡◌, refl}
use mathlib.Core.List.{List}
use mathlib.Core.Bool.{Bool, true, false, cond}
use native.Mathlib.Numerals.{add-one}
use native.Mathlib.Omega.{arith}
use borrow.Author.Tests.{ltb-true, ltb-false}
use lib.ListN.{length, get_or, take}
use Rattle.std.proofs.Common.{get_or-take}
use lib.Seq.{length-take-le}
use lib.Dec.{ltb}
use Rattle.ftd.specs.Types.{TradeDate}
use Rattle.flow.specs.declared.sender.Place.{Place}
use Rattle.listing.specs.Text.{WroteText, decimal_of}
use Rattle.listing.proofs.Numbers.{digits-most}
use Rattle.listing.proofs.Texts.{wrote-both, put-none}
use Rattle.play.specs.Lines.{none}
use Rattle.play.specs.State.{date_text, shown_places, lines_up_to, next_text, out_word, login_text, is_in, is_out}
use Rattle.play.specs.State.{held_text, chain_text, no_chain}
use Rattle.std.specs.Prelude.{Some, None}

-- A number of eight bytes has at most 20 digits.
pub decimal-fits : (x at m : ℕ) → x < 18446744073709551616 → at + 20 ≤ m → at + length (decimal_of x) ≤ m
decimal-fits x at m h g = omega (arith, digits-most 19 x (omega arith))

pub decimal-end : {l o : List ℕ} (x at r : ℕ) → x < 18446744073709551616 → WroteText l at (decimal_of x) o r → r ≤ at + 20
decimal-end x at r h q = omega (arith, digits-most 19 x (omega arith), q.place)

module _ {l o : List ℕ} {at to : ℕ} where
  pub date-none : (d : TradeDate) → d ≡ None → WroteText l at none o to → WroteText l at (date_text d) o to
  date-none d e q = rw e q

  pub date-at : (d : TradeDate) (k x : ℕ) → d ≡ Some k → x ≡ k → WroteText l at (decimal_of x) o to
      → WroteText l at (date_text d) o to
  date-at d k x e f q = rw (e, ← f) q

  pub next-in : (p : Place) → p.login ≡ true → WroteText l at (decimal_of p.next) o to → WroteText l at (next_text p) o to
  unfolding next_text
  next-in p e q = rw e q

  pub next-out : (p : Place) → p.login ≡ false → WroteText l at out_word o to → WroteText l at (next_text p) o to
  unfolding next_text
  next-out p e q = rw e q

  pub login-in : (b : Bool) → b ≡ true → WroteText l at is_in o to → WroteText l at (login_text b) o to
  unfolding login_text
  login-in b e q = rw e q

  pub login-out : (b : Bool) → b ≡ false → WroteText l at is_out o to → WroteText l at (login_text b) o to
  unfolding login_text
  login-out b e q = rw e q

  pub chain_held : (b : Bool) (n m : ℕ) → b ≡ true → WroteText l at (held_text n m) o to
      → WroteText l at (chain_text b n m) o to
  unfolding chain_text
  chain_held b n m e q = rw e q

  pub chain-none : (b : Bool) (n m : ℕ) → b ≡ false → WroteText l at no_chain o to
      → WroteText l at (chain_text b n m) o to
  unfolding chain_text
  chain-none b n m e q = rw e q

-- ─── Line behind line ───

pub shown-least : (n : ℕ) → min n 8 ≡ shown_places n
unfolding shown_places
shown-least n = go (ltb n 8) refl
  where
    go : (b : Bool) → ltb n 8 ≡ b → min n 8 ≡ cond b n 8
    go true e = let h = ltb-true n 8 e in omega (arith, h)
    go false e = let h = ltb-false n 8 e in omega (arith, h)

pub lines-first : (l : List ℕ) (at : ℕ) (f : ℕ → List ℕ) → WroteText l at (lines_up_to f 0) l at
unfolding lines_up_to
lines-first l at f = record { bytes = put-none l at; place = omega arith }

pub lines-turn : {l o p : List ℕ} {at to end : ℕ} (f : ℕ → List ℕ) (i : ℕ) → at ≤ length l
    → WroteText l at (lines_up_to f i) o to → WroteText o to (f i) p end → WroteText l at (lines_up_to f (i + 1)) p end
unfolding lines_up_to
lines-turn f i h a b = rw (add-one i) (wrote-both h a b)

pub lines-over : {l o : List ℕ} {at to : ℕ} (f : ℕ → List ℕ) (i n m : ℕ) → n ≡ m → i ≤ n → n ≤ i
    → WroteText l at (lines_up_to f i) o to → WroteText l at (lines_up_to f m) o to
lines-over f i n m q h g a = let e : i ≡ n = omega arith in rw (← q, ← e) a

-- The lines of the first n elements of a list, of which there are so many.
module _ {A : Type 0} (n : ℕ) (s : List A) (fits : n ≤ length s) (line : A → List ℕ) (d : A) where
  abbrev at-place : ℕ → List ℕ
  at-place i = line (get_or s i d)

  pub front-turn : {l o p : List ℕ} {at to end : ℕ} (i : ℕ) → i < length (take n s) → at ≤ length l
      → WroteText l at (lines_up_to at-place i) o to → WroteText o to (line (get_or (take n s) i d)) p end
      → WroteText l at (lines_up_to at-place (i + 1)) p end
  front-turn i h f a b =
      let g : length (take n s) ≡ n = length-take-le n s fits in
      lines-turn at-place i f a (rw (get_or-take n s i d (omega arith)) at b)

  pub front-over : {l o : List ℕ} {at to : ℕ} (i m : ℕ) → n ≡ m → i ≤ length (take n s) → length (take n s) ≤ i
      → WroteText l at (lines_up_to at-place i) o to → WroteText l at (lines_up_to at-place m) o to
  front-over i m q h g a =
      let f : length (take n s) ≡ n = length-take-le n s fits in
      lines-over at-place i n m q (omega arith) (omega arith) a
