-- A String's value and its bytes: the turns of the loops, and the round trips. Assumes nothing.
use Prim.Native.Nat.{ℕ, zero, suc, ◌+◌, ◌-◌, ◌<◌, ◌≤◌}
use mathlib.Core.Path.{◌≡◌, refl, sym, ap, ◌∙◌}
use mathlib.Core.List.{List, [], ◌∷◌, ◌++◌}
use mathlib.Core.Bool.{Bool, true, false, cond, ◌&&◌, false≢true}
use native.Mathlib.Nat.{zero-add}
use native.Mathlib.Numerals.{add-one}
use native.Mathlib.Omega.{arith}
use borrow.Author.Tests.{le-leb, leb-true, eq-eqb, eqb-true}
use lib.ListN.{length, get_or, take, drop, replicate, get_or-replicate, length-replicate, length-append, length-drop}
use lib.Seq.{get_or-drop, take-length, take_at}
use lib.Dec.{leb, eqb}
use Rattle.ftd.specs.Bytes.{put}
use Rattle.ftd.specs.Values.{every, is_text, is_space}
use Rattle.ftd.specs.Values.Helpers.{in_class}
use Rattle.ftd.specs.Texts.{trimmed, text_value, text_bytes, text_fits}
use Rattle.ftd.specs.declared.values.Class.TheVariants.{Text}
use Rattle.ftd.proofs.bytes.Put.{put-put}
use Rattle.ftd.proofs.values.Checks.{every_append}
use Rattle.std.specs.Prelude.{Some, None}

-- ─── Spaces ───

all-spaces : (n : ℕ) → every is_space (replicate n 32) ≡ true
all-spaces zero = refl
all-spaces (suc n) = all-spaces n

pub spaces-are : (l : List ℕ) → every is_space l ≡ true → replicate (length l) 32 ≡ l
spaces-are [] h = refl
spaces-are (x ∷ xs) h = go (eqb x 32) refl (λ k. spaces-are xs k) h
  where
    go : (b : Bool) → eqb x 32 ≡ b → (every is_space xs ≡ true → replicate (length xs) 32 ≡ xs)
        → (b && every is_space xs) ≡ true
        → 32 ∷ replicate (length xs) 32 ≡ x ∷ xs
    go true e ih k = rw (ih k, eqb-true x 32 e)
    go false e ih k = absurd (false≢true k)

space-at : (l : List ℕ) (i : ℕ) → every is_space l ≡ true → i < length l → get_or l i 0 ≡ 32
space-at l i h k = rw (← (spaces-are l h)) (get_or-replicate (length l) i 32 0 k)

trim-spaces : (l : List ℕ) → every is_space l ≡ true → trimmed l ≡ []
trim-spaces [] h = refl
trim-spaces (x ∷ xs) h = rw h

one_more : (x : ℕ) → x ≡ 32 → (l : List ℕ) → every is_space l ≡ true → every is_space (x ∷ l) ≡ true
one_more x e l h = rw e h

-- ─── The last byte that is no space ───

-- With only spaces from n on, and no space before it, n bytes are left.
trim-size : (s : List ℕ) (n : ℕ) → every is_space (drop (suc n) s) ≡ true → n < length s → (get_or s n 0 ≡ 32 → ⊥)
    → length (trimmed s) ≡ suc n
trim-size [] n h k d = absurd (omega arith)
trim-size (x ∷ xs) n h k d = go n (every is_space (x ∷ xs)) refl h k d (λ m a b e. trim-size xs m a b e)
  where
    go : (n : ℕ) (b : Bool) → every is_space (x ∷ xs) ≡ b → every is_space (drop n xs) ≡ true → n < suc (length xs)
        → (get_or (x ∷ xs) n 0 ≡ 32 → ⊥)
        → ((m : ℕ) → every is_space (drop (suc m) xs) ≡ true → m < length xs → (get_or xs m 0 ≡ 32 → ⊥)
        → length (trimmed xs) ≡ suc m)
        → length (cond b [] (x ∷ trimmed xs)) ≡ suc n
    go n true e h k d ih = absurd (d (space-at (x ∷ xs) n e k))
    go zero false e h k d ih = rw (trim-spaces xs h)
    go (suc m) false e h k d ih = ap suc (ih m h (omega arith) d)

all-space : (l : List ℕ) → ((k : ℕ) → k < length l → get_or l k 0 ≡ 32) → every is_space l ≡ true
all-space [] h = refl
all-space (x ∷ xs) h = one_more x (h 0 (omega arith)) xs (all-space xs (λ k b. h (suc k) (omega arith)))

module _ (s : List ℕ) where
  pub trim-found : (n : ℕ) → n < length s → (get_or s n 0 ≡ 32 → ⊥)
      → ((k : ℕ) → n < k → k < length s → get_or s k 0 ≡ 32)
      → n + 1 ≡ length (trimmed s)
  trim-found n h d spaces =
      let behind : every is_space (drop (suc n) s) ≡ true =
      all-space (drop (suc n) s)
      (λ k b. get_or-drop (suc n) s k 0
      ∙ spaces (suc n + k) (omega arith) (omega (arith, length-drop (suc n) s)))
      in
      add-one n ∙ sym (trim-size s n behind h d)

  pub trim-none : ((k : ℕ) → k < length s → get_or s k 0 ≡ 32) → 0 ≡ length (trimmed s)
  trim-none spaces = rw (trim-spaces s (all-space s spaces))

-- ─── The value is the front of the bytes ───

trim-least : (l : List ℕ) → length (trimmed l) ≤ length l
trim-least [] = omega arith
trim-least (x ∷ xs) = go (every is_space (x ∷ xs)) (trim-least xs)
  where
    go : (b : Bool) → length (trimmed xs) ≤ length xs → length (cond b [] (x ∷ trimmed xs)) ≤ suc (length xs)
    go true h = omega arith
    go false h = omega arith

-- Padded, it is the bytes again.
trim-padded : (l : List ℕ) → trimmed l ++ replicate (length l - length (trimmed l)) 32 ≡ l
trim-padded [] = refl
trim-padded (x ∷ xs) = go (every is_space (x ∷ xs)) refl (trim-padded xs)
  where
    go : (b : Bool) → every is_space (x ∷ xs) ≡ b → trimmed xs ++ replicate (length xs - length (trimmed xs)) 32 ≡ xs
        → cond b [] (x ∷ trimmed xs) ++ replicate (suc (length xs) - length (cond b [] (x ∷ trimmed xs))) 32 ≡ x ∷ xs
    go true e ih =
        let z : suc (length xs) - 0 ≡ suc (length xs) = omega arith in
        rw z (spaces-are (x ∷ xs) e)
    go false e ih =
        let s : suc (length xs) - suc (length (trimmed xs)) ≡ length xs - length (trimmed xs) = omega arith in
        rw s (ap (λ (r : List ℕ). x ∷ r) ih)

pub trim-part : (l : List ℕ) (n : ℕ) → n ≡ length (trimmed l) → take n l ≡ trimmed l
trim-part l n e =
    ap (take n) (sym (trim-padded l)) ∙ take_at (trimmed l) (replicate (length l - length (trimmed l)) 32) n (sym e)

-- ─── Read ───

module _ (s : List ℕ) (a : Bool) (q : a ≡ every (in_class Text) (drop 0 (take (length s) s))) where
  pub text-none : a ≡ false → None ≡ text_value s
  unfolding text_value
  text-none e = rw (← (rw take-length at q), e)

  pub text-read : a ≡ true → (n : ℕ) → n ≡ length (trimmed s) → Some n ≡ text_value s
  unfolding text_value
  text-read e n p = rw (← (rw take-length at q), e, p)

-- A value that is told is there, and is as long as that.
text-told : (l : List ℕ) (n : ℕ) → text_value l ≡ Some n → (every is_text l ≡ true) × (length (trimmed l) ≡ n)
unfolding text_value
text-told l n e = go (every is_text l) e
  where
    go : (b : Bool) → cond b (Some (length (trimmed l))) None ≡ Some n → (b ≡ true) × (length (trimmed l) ≡ n)
    go true e = (refl, cc)
    go false e = let z : ◌≡◌ {A = ℕ} 0 1 = cc in absurd (omega arith)

pub text-inside : (l : List ℕ) (n : ℕ) → text_value l ≡ Some n → length (take n l) ≡ n
text-inside l n e =
    let t = text-told l n e in
    ap length (trim-part l n (sym t.1)) ∙ t.1

-- ─── Whether it fits ───

module _ (width : ℕ) (v : List ℕ) where
  pub text-parts : text_fits width v ≡ true
      → (length v ≤ width) × (every is_text v ≡ true) × (length (trimmed v) ≡ length v)
  unfolding text_fits
  text-parts e = go (leb (length v) width) refl (every is_text v) (eqb (length (trimmed v)) (length v)) refl e
    where
      go : (a : Bool) → leb (length v) width ≡ a → (b c : Bool) → eqb (length (trimmed v)) (length v) ≡ c
          → (a && (b && c)) ≡ true
          → (length v ≤ width) × (b ≡ true) × (length (trimmed v) ≡ length v)
      go true p true true r e = (leb-true (length v) width p, refl, eqb-true (length (trimmed v)) (length v) r)
      go true p true false r e = absurd (false≢true e)
      go true p false c r e = absurd (false≢true e)
      go false p b c r e = absurd (false≢true e)

  pub text-length : length v ≤ width → length (text_bytes width v) ≡ width
  unfolding text_bytes
  text-length h = rw (length-append, length-replicate) (omega arith)

  module _ (f : Bool) (q : f ≡ text_fits width v) (e : f ≡ true) where
    pub text-low : length v ≤ width
    text-low = (text-parts (sym q ∙ e)).0

    pub text-full : length (text_bytes width v) ≡ width
    text-full = text-length text-low

-- ─── The bytes of a value ───

pub text-put : (out v : List ℕ) (width : ℕ) (a b : List ℕ) → a ≡ put out 0 v
    → b ≡ put a (length v) (replicate (width - length v) 32)
    → b ≡ put out 0 (text_bytes width v)
unfolding text_bytes
text-put out v width a b p q =
    q ∙ rw p (rw zero-add at (put-put out 0 v (replicate (width - length v) 32) (omega arith)))

-- ─── Round trips ───

-- Spaces behind a value are no part of it.
trim-behind : (v s : List ℕ) → every is_space s ≡ true → trimmed (v ++ s) ≡ trimmed v
trim-behind [] s h = trim-spaces s h
trim-behind (x ∷ xs) s h =
    let b : every is_space (x ∷ (xs ++ s)) ≡ every is_space (x ∷ xs) =
    every_append is_space (x ∷ xs) s ∙ rw h (and-true (every is_space (x ∷ xs))) in
    rw (b, trim-behind xs s h)
  where
    and-true : (b : Bool) → (b && true) ≡ b
    and-true true = refl
    and-true false = refl

-- A value that does not end with a space is its own.
trim-full : (v : List ℕ) → length (trimmed v) ≡ length v → trimmed v ≡ v
trim-full [] h = refl
trim-full (x ∷ xs) h = go (every is_space (x ∷ xs)) (λ k. trim-full xs k) h
  where
    go : (b : Bool) → (length (trimmed xs) ≡ length xs → trimmed xs ≡ xs)
        → length (cond b [] (x ∷ trimmed xs)) ≡ suc (length xs)
        → cond b [] (x ∷ trimmed xs) ≡ x ∷ xs
    go true ih h = absurd (omega arith)
    go false ih h = ap (λ (r : List ℕ). x ∷ r) (ih (omega arith))

trim-text : (l : List ℕ) → every is_text l ≡ true → every is_text (trimmed l) ≡ true
trim-text l h =
    go (every is_text (trimmed l)) (every is_text (replicate (length l - length (trimmed l)) 32))
    (sym (every_append is_text (trimmed l) (replicate (length l - length (trimmed l)) 32)) ∙ rw (trim-padded l) h)
  where
    go : (a b : Bool) → (a && b) ≡ true → a ≡ true
    go true b e = refl
    go false b e = absurd (false≢true e)

spaces-text : (n : ℕ) → every is_text (replicate n 32) ≡ true
spaces-text zero = refl
spaces-text (suc n) = spaces-text n

pub text-back : (width : ℕ) (v : List ℕ) → text_fits width v ≡ true
    → (text_value (text_bytes width v) ≡ Some (length v)) × (take (length v) (text_bytes width v) ≡ v)
unfolding text_bytes text_value
text-back width v e =
    let p = text-parts width v e in
    let s : List ℕ = replicate (width - length v) 32 in
    let t : trimmed (v ++ s) ≡ v = trim-behind v s (all-spaces (width - length v)) ∙ trim-full v p.2 in
    (rw (every_append is_text v s, p.1, spaces-text (width - length v), t), take_at v s (length v) refl)

again : (l : List ℕ) → every is_text l ≡ true
    → (text_fits (length l) (trimmed l) ≡ true) × (text_bytes (length l) (trimmed l) ≡ l)
unfolding text_bytes text_fits
again l h =
    let s : List ℕ = replicate (length l - length (trimmed l)) 32 in
    let t : trimmed (trimmed l) ≡ trimmed l =
    sym (trim-behind (trimmed l) s (all-spaces (length l - length (trimmed l)))) ∙ ap trimmed (trim-padded l) in (
      rw (
        le-leb (length (trimmed l)) (length l) (trim-least l),
        trim-text l h,
        t,
        eq-eqb (length (trimmed l))
            (length (trimmed l)) refl,
      ),
      trim-padded l,
    )

pub text-again : (l : List ℕ) (n : ℕ) → text_value l ≡ Some n
    → (text_fits (length l) (take n l) ≡ true) × (text_bytes (length l) (take n l) ≡ l)
text-again l n e =
    let t = text-told l n e in
    rw (trim-part l n (sym t.1)) (again l t.0)
