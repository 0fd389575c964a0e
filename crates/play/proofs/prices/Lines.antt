-- Prices as text, and the line of each answer of the book, over plain variables. Assumes nothing.
use Prim.Native.Nat.{ℕ, ◌+◌, ◌/◌, ◌%◌, ◌≤◌}
use mathlib.Core.Path.{◌≡◌, sym}
use mathlib.Core.Bool.{true, false, false≢true}
use mathlib.Core.List.{List, [], ◌∷◌}
use native.Mathlib.Omega.{arith}
use borrow.Author.Tests.{ltb-true}
use lib.IntN.{ℤ, pos, negsuc, nat_abs}
use lib.Signed.{lt_z}
use lib.ListN.{length}
use Rattle.ftd.specs.Signed.Write.{digits_in}
use Rattle.listing.specs.Text.{WroteText, decimal_of}
use Rattle.listing.proofs.Numbers.{digits-most}
use Rattle.listing.proofs.Texts.{wrote-both}
use Rattle.book.specs.Types.{Mean}
use Rattle.play.specs.Lines.{word_line, none, level, mean, units_text, price_text, priced, spaced}
use Rattle.play.specs.Lines.{pair_line, price_line, level_line, mean_line}
use Rattle.std.specs.Prelude.{Some, None}
use Rattle.book.specs.Types.{MaybeLevel, some_level}

-- ─── A price ───

module _ {l o₁ : List ℕ} {at e₁ : ℕ} (h : at ≤ length l) where
  pub four-digits : {o₂ o₃ o₄ : List ℕ} {e₂ e₃ e₄ : ℕ} (x : ℕ)
      → WroteText l at ((48 + x / 10 / 10 / 10 % 10) ∷ []) o₁ e₁
      → WroteText o₁ e₁ ((48 + x / 10 / 10 % 10) ∷ []) o₂ e₂ → WroteText o₂ e₂ ((48 + x / 10 % 10) ∷ []) o₃ e₃
      → WroteText o₃ e₃ ((48 + x % 10) ∷ []) o₄ e₄ → WroteText l at (digits_in 4 x) o₄ e₄ × (e₄ ≡ at + 4)
  four-digits {o₄ = o₄} {e₄ = e₄} x a b c d =
      let t : WroteText l at (digits_in 4 x) o₄ e₄ = wrote-both h (wrote-both h (wrote-both h a b) c) d in
      (t, t.place)

  pub units-text : {o₂ o₃ : List ℕ} {e₂ e₃ : ℕ} (units : ℕ) → units ≤ 18446744073709551615
      → WroteText l at (decimal_of (units / 10000)) o₁ e₁ → WroteText o₁ e₁ (46 ∷ []) o₂ e₂
      → WroteText o₂ e₂ (digits_in 4 units) o₃ e₃ → e₃ ≡ e₂ + 4
      → WroteText l at (units_text units) o₃ e₃ × (e₃ ≤ at + 25)
  unfolding units_text
  units-text {e₂ = e₂} units f a b c k =
      let m : length (decimal_of (units / 10000)) ≤ 20 = digits-most 19 (units / 10000) (omega arith) in
      let p : e₂ ≡ e₁ + 1 = b.place in
      (wrote-both h (wrote-both h a b) c, omega (arith, a.place))

  pub price-below : {o₂ : List ℕ} {e₂ : ℕ} (x y : ℤ) (u : ℕ) → WroteText l at (45 ∷ []) o₁ e₁
      → WroteText o₁ e₁ (units_text u) o₂ e₂ → u ≡ nat_abs y → lt_z y (pos 0) ≡ true → y ≡ x
      → WroteText l at (price_text x) o₂ e₂
  unfolding price_text
  price-below {o₂} {e₂} x y u a b q t e = go x (rw e at t) (rw e at q)
    where
      go : (x : ℤ) → lt_z x (pos 0) ≡ true → u ≡ nat_abs x → WroteText l at (price_text x) o₂ e₂
      go (pos n) t q = absurd (omega (arith, ltb-true n 0 t))
      go (negsuc n) t q = wrote-both h a (rw q at b)

module _ {l o : List ℕ} {at to : ℕ} where
  pub price-above : (x y : ℤ) (u : ℕ) → WroteText l at (units_text u) o to → u ≡ nat_abs y → lt_z y (pos 0) ≡ false
      → y ≡ x → WroteText l at (price_text x) o to
  unfolding price_text
  price-above x y u a q t e = go x (rw e at t) (rw e at q)
    where
      go : (x : ℤ) → lt_z x (pos 0) ≡ false → u ≡ nat_abs x → WroteText l at (price_text x) o to
      go (pos n) t q = rw q at a
      go (negsuc n) t q = absurd (false≢true (sym t))

-- ─── Lines ───

module _ {l o₁ o₂ : List ℕ} {e₁ e₂ : ℕ} where
  pub priced-text : {o₃ : List ℕ} {e₃ : ℕ} (w : List ℕ) (x y : ℤ) → WroteText l 0 w o₁ e₁
      → WroteText o₁ e₁ (32 ∷ []) o₂ e₂ → WroteText o₂ e₂ (price_text y) o₃ e₃ → y ≡ x
      → WroteText l 0 (priced w x) o₃ e₃
  unfolding priced
  priced-text w x y a b c e = wrote-both (omega arith) (wrote-both (omega arith) a b) (rw e at c)

  pub pair-text : {o₃ : List ℕ} {e₃ : ℕ} (x y : ℤ) (n k : ℕ) → WroteText l 0 (priced level y) o₁ e₁
      → WroteText o₁ e₁ (spaced k) o₂ e₂ → WroteText o₂ e₂ (10 ∷ []) o₃ e₃ → k ≡ n → y ≡ x
      → WroteText l 0 (pair_line x n) o₃ e₃
  unfolding pair_line word_line
  pair-text x y n k a b c f e =
      rw (← e, ← f) (wrote-both (omega arith) (wrote-both (omega arith) a b) c)

  pub mean-text : (x y : ℤ) → WroteText l 0 (priced mean y) o₁ e₁ → WroteText o₁ e₁ (10 ∷ []) o₂ e₂ → y ≡ x
      → WroteText l 0 (price_line x) o₂ e₂
  unfolding price_line word_line
  mean-text x y a b e = rw (← e) (wrote-both (omega arith) a b)

module _ {l o : List ℕ} {to : ℕ} where
  pub level-none : (a : MaybeLevel) → a ≡ None → WroteText l 0 (word_line none) o to → WroteText l 0 (level_line a) o to
  level-none a e q = rw e q

  pub level-at : (a : MaybeLevel) (p y : ℤ) (n : ℕ) → a ≡ some_level p n → WroteText l 0 (pair_line y n) o to → y ≡ p
      → WroteText l 0 (level_line a) o to
  level-at a p y n e q f = rw (e, ← f) q

  pub mean-none : (a : Mean) → a ≡ None → WroteText l 0 (word_line none) o to → WroteText l 0 (mean_line a) o to
  mean-none a e q = rw e q

  pub mean-price : (a : Mean) (p y : ℤ) → a ≡ Some p → WroteText l 0 (price_line y) o to → y ≡ p
      → WroteText l 0 (mean_line a) o to
  mean-price a p y e q f = rw (e, ← f) q
