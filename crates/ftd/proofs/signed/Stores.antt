-- Digits written one at a time from the last, and what the writers of values answer and leave. Assumes nothing.
use Prim.Native.Nat.{ℕ, zero, suc, ◌+◌, ◌-◌, ◌/◌, ◌%◌, ◌<◌, ◌≤◌}
use mathlib.Core.Path.{◌≡◌, refl, sym, ◌∙◌}
use mathlib.Core.List.{List, [], ◌∷◌, ◌++◌, append_assoc, append-nil}
use mathlib.Core.Bool.{Bool, true, false, cond, ◌&&◌, false≢true}
use native.Mathlib.Nat.{add-zero, zero-add}
use native.Mathlib.Omega.{arith}
use borrow.Author.Tests.{leb-true}
use lib.ListN.{length, get_or, take, drop, length-append, take-append-drop}
use lib.Seq.{take-append-le, take-take, drop_at, length-take-le}
use lib.Dec.{leb, ltb, eqb, T, eqb→eq}
use Rattle.ftd.specs.Bytes.{put}
use Rattle.ftd.specs.Table.Helpers.{all_below}
use Rattle.ftd.specs.Signed.{pow10}
use Rattle.ftd.specs.Write.{written_answer, written_output, fit_verdict}
use Rattle.ftd.specs.Signed.Write.{digits_in, number_bytes, number_fits, float_bytes, float_fits}
use Rattle.ftd.specs.declared.refusal.Refusal.TheVariants.{Item}
use Rattle.ftd.proofs.bytes.Put.{put-put}
use Rattle.ftd.proofs.table.Rule.{below_at}
use Rattle.ftd.proofs.signed.Powers.{pow10-some}
use Rattle.std.specs.Prelude.{Err}
use Rattle.ftd.specs.declared.write.WriteError.TheVariants.{Refused}

-- ─── Powers of ten, as the code has them ───

unfoldable pub powers : List ℕ
powers =
    1 ∷ 10 ∷ 100 ∷ 1000 ∷ 10000 ∷ 100000 ∷ 1000000 ∷ 10000000 ∷ 100000000 ∷ 1000000000 ∷ 10000000000 ∷ 100000000000
    ∷ 1000000000000
    ∷ 10000000000000 ∷ 100000000000000 ∷ 1000000000000000 ∷ 10000000000000000 ∷ 100000000000000000 ∷ 1000000000000000000
    ∷ []

power-entries : T (all_below (λ n. eqb (get_or powers n 0) (pow10 n)) 19)
unfolding powers
power-entries = tt

pub power_at : (n : ℕ) → n ≤ 18 → (get_or powers n 0 ≡ pow10 n) × (1 ≤ get_or powers n 0)
power_at n h =
    let e : get_or powers n 0 ≡ pow10 n =
    eqb→eq _ _ (below_at (λ k. eqb (get_or powers k 0) (pow10 k)) 19 power-entries n (omega arith)) in
    (e, rw e (pow10-some n))

-- ─── Digits ───

pub digits-length : (n x : ℕ) → length (digits_in n x) ≡ n
digits-length zero x = refl
digits-length (suc n) x = rw (length-append, digits-length n (x / 10)) (omega arith)

-- Bytes put right before what has been put.
put_front : (l : List ℕ) (at : ℕ) (a vs : List ℕ) → at + length a ≤ length l
    → put (put l (at + length a) vs) at a ≡ put l at (a ++ vs)
unfolding put
put_front l at a vs h =
    let n : ℕ = at + length a in
    let t : length (take n l) ≡ n = length-take-le n l h in
    let k : at ≤ length (take n l) = rw t (omega arith) in
    let x : List ℕ = vs ++ drop (n + length vs) l in
    let p : take at (take n l ++ x) ≡ take at l = take-append-le at (take n l) x k ∙ take-take at n l (omega arith) in
    let q : drop n (take n l ++ x) ≡ x = drop_at (take n l) x n t in
    let s : n + length vs ≡ at + length (a ++ vs) = rw length-append (omega arith) in
    rw (append_assoc (take n l) vs (drop (n + length vs) l), p, q, ← s) (simp append_assoc)

pub put-none : (l : List ℕ) (at : ℕ) → put l at [] ≡ l
unfolding put
put-none l at = rw (append-nil, add-zero) (take-append-drop at l)

module _ (out : List ℕ) (at i left : ℕ) (t : List ℕ) (inv : put out at (digits_in i left) ≡ t) where
  pub digits_more : 0 < i → at + i ≤ length out → (next : List ℕ)
      → next ≡ put out (at + (i - 1)) ((48 + left % 10) ∷ [])
      → put next at (digits_in (i - 1) (left / 10)) ≡ t
  digits_more h f next q = rw q (go i h f inv)
    where
      d : ℕ
      d = 48 + left % 10

      go : (i : ℕ) → 0 < i → at + i ≤ length out → put out at (digits_in i left) ≡ t
          → put (put out (at + (i - 1)) (d ∷ [])) at (digits_in (i - 1) (left / 10)) ≡ t
      go zero h f p = absurd (omega arith)
      go (suc j) h f p =
          let s : suc j - 1 ≡ j = omega arith in
          let n : length (digits_in j (left / 10)) ≡ j = digits-length j (left / 10) in
          let w : put (put out (at + length (digits_in j (left / 10))) (d ∷ [])) at (digits_in j (left / 10)) ≡ put
          out at (digits_in j (left / 10) ++ (d ∷ [])) =
          put_front out at (digits_in j (left / 10)) (d ∷ []) (rw n (omega arith)) in
          rw s (rw n at w) ∙ p

  pub digits-done : i ≤ 0 → out ≡ t
  digits-done h =
      let z : i ≡ 0 = omega arith in
      sym (put-none out at) ∙ (rw z at inv)

-- ─── The bytes of a Number ───

module _ (width : ℕ) (negative : Bool) (units : ℕ) where
  module _ (out : List ℕ) (low : 1 ≤ width) (room : width ≤ length out) where
    pub put-minus : negative ≡ true → (a b : List ℕ) → a ≡ put out 0 (45 ∷ [])
        → b ≡ put a 1 (digits_in (width - 1) units)
        → b ≡ put out 0 (number_bytes width negative units)
    unfolding number_bytes
    put-minus n a b p q = rw n (q ∙ rw p (put-put out 0 (45 ∷ []) (digits_in (width - 1) units) (omega arith)))

    pub put-plain : negative ≡ false → (a : List ℕ) → a ≡ put out 0 (digits_in width units)
        → a ≡ put out 0 (number_bytes width negative units)
    unfolding number_bytes
    put-plain n a p = rw n p

  -- What fits has a byte, and at most 18.
  pub fits-some : number_fits width negative units ≡ true → (1 ≤ width) × (width ≤ 18)
  unfolding number_fits
  fits-some e = go (leb width 18) refl negative (leb 1 width) refl e
    where
      go : (a : Bool) → leb width 18 ≡ a → (n b : Bool) → leb 1 width ≡ b
          → (a && cond n (b && (ltb 0 units && ltb units (pow10 (width - 1)))) (b && ltb units (pow10 width))) ≡ true
          → (1 ≤ width) × (width ≤ 18)
      go true p n true q e = (leb-true 1 width q, leb-true width 18 p)
      go true p true false q e = absurd (false≢true e)
      go true p false false q e = absurd (false≢true e)
      go false p n b q e = absurd (false≢true e)

  pub number-length : 1 ≤ width → length (number_bytes width negative units) ≡ width
  unfolding number_bytes
  number-length h = go negative
    where
      go : (b : Bool) → length (cond b (45 ∷ digits_in (width - 1) units) (digits_in width units)) ≡ width
      go true = rw (digits-length (width - 1) units) (omega arith)
      go false = digits-length width units

-- ─── What a writer answers and leaves ───

module _ (fits : Bool) (bytes out : List ℕ) (f : Bool) (q : f ≡ fits) where
  pub misfit : f ≡ false → (Err (Refused Item) ≡ written_answer (fit_verdict fits) bytes out)
      × (out ≡ written_output (fit_verdict fits) bytes out)
  unfolding written_answer written_output
  misfit e = (rw (← q, e), rw (← q, e))

module _ (width : ℕ) (negative : Bool) (units : ℕ) (f : Bool) (q : f ≡ number_fits width negative units) (e : f ≡ true)
  where
    pub number-low : 1 ≤ width
    number-low = (fits-some width negative units (sym q ∙ e)).0

    pub number-wide : length (number_bytes width negative units) ≡ width
    number-wide = number-length width negative units number-low

-- ─── The bytes of a Float ───

module _ (scale width : ℕ) (negative : Bool) (units : ℕ) where
  pub float_fits-parts : float_fits scale width negative units ≡ true
      → (scale + 2 ≤ width) × (width ≤ 18) × (number_fits (width - 1) negative units ≡ true)
  unfolding float_fits
  float_fits-parts e = go (leb (scale + 2) width) refl (leb width 18) refl e
    where
      go : (a : Bool) → leb (scale + 2) width ≡ a → (b : Bool) → leb width 18 ≡ b
          → (a && (b && number_fits (width - 1) negative units)) ≡ true
          → (scale + 2 ≤ width) × (width ≤ 18) × (number_fits (width - 1) negative units ≡ true)
      go true p true q e = (leb-true (scale + 2) width p, leb-true width 18 q, e)
      go true p false q e = absurd (false≢true e)
      go false p b q e = absurd (false≢true e)

  pub float-length : scale + 2 ≤ width → length (float_bytes scale width negative units) ≡ width
  unfolding float_bytes
  float-length h =
      rw (
        length-append,
        number-length (width - (scale + 1)) negative (units / pow10 scale) (omega arith),
        digits-length
            scale units,
      ) (omega arith)

  module _ (f : Bool) (q : f ≡ float_fits scale width negative units) (e : f ≡ true) where
    pub float-low : scale + 2 ≤ width
    float-low = (float_fits-parts (sym q ∙ e)).0

    pub float-high : width ≤ 18
    float-high = (float_fits-parts (sym q ∙ e)).1

    pub float-full : length (float_bytes scale width negative units) ≡ width
    float-full = float-length float-low

module _ (scale width : ℕ) (negative : Bool) (units : ℕ) (low : scale + 2 ≤ width) (out : List ℕ)
    (room : width ≤ length out) (p : ℕ) (y : p ≡ pow10 scale) where
  pub put-float : (a b c : List ℕ) → a ≡ put out 0 (number_bytes (width - (scale + 1)) negative (units / p))
      → b ≡ put a (width - (scale + 1)) (46 ∷ []) → c ≡ put b (width - (scale + 1) + 1) (digits_in scale units)
      → c ≡ put out 0 (float_bytes scale width negative units)
  unfolding float_bytes
  put-float a b c s t u =
      let point : ℕ = width - (scale + 1) in
      let h : List ℕ = number_bytes point negative (units / p) in
      let k : length h ≡ point = number-length point negative (units / p) (omega arith) in
      let b2 : b ≡ put out 0 (h ++ (46 ∷ [])) =
      t ∙ rw s (rw (zero-add, k) at (put-put out 0 h (46 ∷ []) (omega arith))) in
      let m : length (h ++ (46 ∷ [])) ≡ point + 1 = rw (length-append, k) in
      let c2 : c ≡ put out 0 ((h ++ (46 ∷ [])) ++ digits_in scale units) =
      u ∙ rw b2 (rw (zero-add, m) at (put-put out 0 (h ++ (46 ∷ [])) (digits_in scale units) (omega arith))) in
      c2 ∙ rw (append_assoc, ← y)
