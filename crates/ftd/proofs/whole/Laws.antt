-- Values of Char, Word and Int: what the readers decide, and the round trips. Assumes nothing.
use Prim.Native.Nat.{ℕ, ◌<◌}
use mathlib.Core.Path.{◌≡◌, refl, sym, ap, ◌∙◌}
use mathlib.Core.List.{List, [], ◌∷◌}
use mathlib.Core.Bool.{Bool, true, false, cond, ◌&&◌, false≢true}
use native.Mathlib.Omega.{arith}
use borrow.Author.Tests.{eq-eqb, ne_eqb, eqb-true}
use lib.ListN.{length, get_or, take}
use lib.Seq.{take-length}
use lib.Dec.{eqb}
use Rattle.ftd.specs.Bytes.{Bytes, be16_of, be32_of, bytes16, bytes32}
use Rattle.ftd.specs.Whole.{char_fits, char_value, word_value, int_value}
use Rattle.ftd.proofs.Lists.{be16-width, be32-width}
use Rattle.ftd.proofs.bytes.Numbers.{back16, back32, two_bytes, four_bytes}
use Rattle.std.specs.Prelude.{Some, None}

module _ (kind : ℕ) (s : List ℕ) where
  pub char-wide : (length s ≡ 1 → ⊥) → None ≡ char_value kind s
  unfolding char_value
  char-wide h = rw (ne_eqb (length s) 1 h)

  module _ (h : length s ≡ 1) (f : Bool) (q : f ≡ char_fits kind (get_or s 0 0)) where
    pub char-wrong : f ≡ false → None ≡ char_value kind s
    unfolding char_value
    char-wrong e = rw (eq-eqb (length s) 1 h, ← q, e)

    pub char-read : f ≡ true → (x : ℕ) → x ≡ get_or s 0 0 → Some x ≡ char_value kind s
    unfolding char_value
    char-read e x p = rw (eq-eqb (length s) 1 h, ← q, e, p)

module _ (s : List ℕ) where
  pub word_wide : (length s ≡ 2 → ⊥) → None ≡ word_value s
  unfolding word_value
  word_wide h = rw (ne_eqb (length s) 2 h)

  pub word_read : length s ≡ 2 → (x y : ℕ) → x ≡ be16_of s 0 → y ≡ x → Some y ≡ word_value s
  unfolding word_value
  word_read h x y p q = rw (eq-eqb (length s) 2 h, ← p, q)

  pub int-wide : (length s ≡ 4 → ⊥) → None ≡ int_value s
  unfolding int_value
  int-wide h = rw (ne_eqb (length s) 4 h)

  pub int-read : length s ≡ 4 → (x : ℕ) → x ≡ be32_of s 0 → Some x ≡ int_value s
  unfolding int_value
  int-read h x p = rw (eq-eqb (length s) 4 h, ← p)

-- ─── Round trips ───

pub char-back : (kind b : ℕ) → char_fits kind b ≡ true → char_value kind (b ∷ []) ≡ Some b
unfolding char_value
char-back kind b e = rw e

-- A value told by a test is there, and is that one.
told : (g : Bool) (v x : ℕ) → cond g (Some v) None ≡ Some x → (g ≡ true) × (v ≡ x)
told true v x e = (refl, cc)
told false v x e = absurd (let z : ◌≡◌ {A = ℕ} 0 1 = cc in omega arith)

pub char-again : (kind : ℕ) (l : List ℕ) (b : ℕ) → char_value kind l ≡ Some b → (char_fits kind b ≡ true) × (b ∷ [] ≡ l)
unfolding char_value
char-again kind l b e =
    let t = told (eqb (length l) 1 && char_fits kind (get_or l 0 0)) (get_or l 0 0) b e in
    go (eqb (length l) 1) refl t.0 t.1
  where
    one : (l : List ℕ) → length l ≡ 1 → get_or l 0 0 ∷ [] ≡ l
    one [] h = absurd (omega arith)
    one (x ∷ []) h = refl
    one (x ∷ y ∷ ys) h = absurd (omega arith)

    go : (a : Bool) → eqb (length l) 1 ≡ a → (a && char_fits kind (get_or l 0 0)) ≡ true → get_or l 0 0 ≡ b
        → (char_fits kind b ≡ true) × (b ∷ [] ≡ l)
    go true p f v = (rw (← v) f, rw (← v) (one l (eqb-true (length l) 1 p)))
    go false p f v = absurd (false≢true f)

pub word-back : (x : ℕ) → word_value (bytes16 x) ≡ Some x
unfolding word_value
word-back x = ap Some (back16 x [])

pub int-back : (x : ℕ) → int_value (bytes32 x) ≡ Some x
unfolding int_value
int-back x = ap Some (back32 x [])

module _ (l : List ℕ) (bytes : Bytes l) (x : ℕ) where
  pub word-again : word_value l ≡ Some x → (x < 65536) × (bytes16 x ≡ l)
  unfolding word_value
  word-again e =
      let t = told (eqb (length l) 2) (be16_of l 0) x e in
      let n : length l ≡ 2 = eqb-true (length l) 2 t.0 in
      let a : take 2 l ≡ l = rw (← n, take-length) in
      (rw (← t.1) (be16-width l bytes 0), rw (← t.1) (sym (two_bytes l bytes 0 (omega arith)) ∙ a))

  pub int-again : int_value l ≡ Some x → (x < 4294967296) × (bytes32 x ≡ l)
  unfolding int_value
  int-again e =
      let t = told (eqb (length l) 4) (be32_of l 0) x e in
      let n : length l ≡ 4 = eqb-true (length l) 4 t.0 in
      let a : take 4 l ≡ l = rw (← n, take-length) in
      (rw (← t.1) (be32-width l bytes 0), rw (← t.1) (sym (four_bytes l bytes 0 (omega arith)) ∙ a))
