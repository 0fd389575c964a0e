-- A field that lies across two parts, and what each way through the check decides. Assumes nothing.
use Prim.Native.Nat.{ℕ, ◌+◌, ◌*◌, ◌-◌, ◌<◌, ◌≤◌}
use mathlib.Core.Path.{◌≡◌, refl, sym, ap, ◌∙◌}
use mathlib.Core.List.{List, ◌++◌, append_assoc}
use mathlib.Core.Bool.{Bool, true, false, ◌&&◌}
use native.Mathlib.Nat.{zero-add}
use native.Mathlib.Omega.{arith}
use borrow.Author.Tests.{lt-leb, leb-true, leb-false, ltb-true, ltb-false}
use lib.ListN.{length, get_or, take, drop, length-append, length-drop, take-append-drop}
use lib.Seq.{take-append-add, take_at, take_all, take-length, length-take-le, get_or-append-add}
use lib.Dec.{leb, ltb}
use Rattle.ftd.specs.Bytes.{be16_of, put}
use Rattle.ftd.specs.Runs.{front, run_of, ended}
use Rattle.ftd.specs.Fields.{field, fields_of, all_small, shapely}
use Rattle.ftd.specs.Content.{content_check}
use Rattle.ftd.specs.declared.composition.Direction.{Direction}
use Rattle.ftd.specs.Types.{Checked}
use Rattle.ftd.specs.declared.refusal.Refusal.TheVariants.{FieldRun}
use Rattle.ftd.proofs.Lists.{byte-append, be16-append}
use Rattle.ftd.proofs.bytes.Put.{put-put, put-zero}
use Rattle.ftd.proofs.runs.Laws.{run-over}
use Rattle.ftd.proofs.runs.Turns.{and-false, not-ended}
use Rattle.ftd.proofs.fields.Turns.{some-field, field-short, field-whole}
use Rattle.ftd.proofs.fields.Shape.{shapely-next}
use Rattle.ftd.proofs.content.Verdicts.{by_shape}
use Rattle.ftd.proofs.parts.Laws.{shapely-behind, shaped-over, shaped-not, field-alone}
use Rattle.std.specs.Prelude.{Err}

module _ (tid : ℕ) (d : Direction) (limit : ℕ) where
  not-shapely : (l : List ℕ) → shapely (run_of field l) ≡ false → Err FieldRun ≡ content_check tid d l limit
  not-shapely l e = by_shape tid d l limit false (sym (shaped-not l limit e)) refl

  -- Two parts are longer than the limit.
  module _ (h t : List ℕ) where
    too_long : limit < length h + length t → Err FieldRun ≡ content_check tid d (h ++ t) limit
    too_long k =
        by_shape tid d (h ++ t) limit false (sym (shaped-over (h ++ t) limit (rw (length-append h t) k))) refl

    pub head-long : limit < length h → Err FieldRun ≡ content_check tid d (h ++ t) limit
    head-long k = too_long (omega arith)

    pub both_long : length h ≤ limit → limit - length h < length t
        → Err FieldRun ≡ content_check tid d (h ++ t) limit
    both_long k j = too_long (omega arith)

-- `s` is the start of a field, `t` has the rest of it.
module _ (s t : List ℕ) (over : front field s ≡ 0) (n : ℕ) (e : n ≡ front field (s ++ t)) where
  -- The field takes more than its start.
  pub past-start : (n ≡ 0 → ⊥) → length s < n
  past-start z = go (leb (6 + be16_of (s ++ t) 4) (length (s ++ t))) refl (ltb (length s) n) refl
    where
      go : (b : Bool) → leb (6 + be16_of (s ++ t) 4) (length (s ++ t)) ≡ b → (c : Bool) → ltb (length s) n ≡ c
          → length s < n
      go false p c q =
          absurd (z (e ∙ field-short (s ++ t) 0 (omega (arith, leb-false (6 + be16_of (s ++ t) 4) (length (s ++ t)) p))))
      go true p true q = ltb-true (length s) n q
      go true p false q =
          let f : n ≡ 6 + be16_of (s ++ t) 4 =
          e ∙ field-whole (s ++ t) 0 (omega (arith, leb-true (6 + be16_of (s ++ t) 4) (length (s ++ t)) p)) in
          let k : n ≤ length s = ltb-false (length s) n q in
          let g : be16_of (s ++ t) 4 ≡ be16_of s 4 = be16-append s t 4 (omega arith) in
          let w : front field s ≡ 6 + be16_of s 4 = field-whole s 0 (omega arith) in
          absurd (omega arith)

  module _ (tid : ℕ) (d : Direction) (limit : ℕ) (a : List ℕ) (whole : ended (run_of field a) ≡ true) where
    behind : shapely (run_of field (s ++ t)) ≡ false → Err FieldRun ≡ content_check tid d (a ++ (s ++ t)) limit
    behind f =
        not-shapely tid d limit (a ++ (s ++ t))
        (shapely-behind a (s ++ t) whole
        ∙ ap (λ (b : Bool). all_small (fields_of a) && b) f
        ∙ and-false (all_small (fields_of a)))

    -- It does not stand there whole.
    pub across-none : 0 < length s → n ≡ 0 → Err FieldRun ≡ content_check tid d (a ++ (s ++ t)) limit
    across-none h z =
        behind
        (rw (
          run-over field some-field (s ++ t) 0 n e z,
          not-ended (s ++ t) 0 (rw (length-append s t) (omega arith)),
        ))

    -- It is too long for a packet.
    pub across-long : (n ≡ 0 → ⊥) → 4080 < n → Err FieldRun ≡ content_check tid d (a ++ (s ++ t)) limit
    across-long z h =
        behind
        (shapely-next (s ++ t) 0 n e z
        ∙ rw (lt-leb n 4080 h) (and-false (ended (run_of field (drop (0 + n) (s ++ t))))))

  module _ (z : n ≡ 0 → ⊥) (most : n ≤ length s + length t) where
    -- Start and rest of the field are one whole field.
    pub across-whole : ended (run_of field (s ++ take (n - length s) t)) ≡ true
    across-whole =
        let h : length s + (n - length s) ≡ n = omega (arith, past-start z) in
        rw (← (take-append-add s t (n - length s)), h) (field-alone (s ++ t) 0 n e z)

    pub rest-inside : n - length s ≤ length t
    rest-inside = omega (arith, past-start z)

    pub across-most : n ≤ 4080 → length s + length (take (n - length s) t) ≤ 4080
    across-most h = rw (length-take-le (n - length s) t rest-inside) (omega (arith, past-start z))

    pub rest-length : n - length s ≡ length (take (n - length s) t)
    rest-length = sym (length-take-le (n - length s) t rest-inside)

-- ─── Put together ───

-- Two parts copied, one behind the other.
module _ (o p q s t : List ℕ) (x : p ≡ put o 0 s) (y : q ≡ put p (length s) t) where
  pub copied : take (length s + length t) q ≡ s ++ t
  copied =
      let e : put (put o 0 s) (length s) t ≡ (s ++ t) ++ drop (length (s ++ t)) o =
      (rw zero-add at (put-put o 0 s t (omega arith))) ∙ put-zero o (s ++ t) in
      rw (y, x, e) (take_at (s ++ t) (drop (length (s ++ t)) o) (length s + length t) (length-append s t))

  pub copied-length : length s + length t ≡ length (take (length s + length t) q)
  copied-length = sym (ap length copied ∙ length-append s t)

-- What a part lends from a place on.
rest-is : (k : ℕ) (l : List ℕ) → take (length l - k) (drop k l) ≡ drop k l
rest-is k l = take_all (length l - k) (drop k l) (rw (length-drop k l) (omega arith))

-- The start of a field, the rest of it, and what is behind it.
module _ (tid : ℕ) (d : Direction) (limit : ℕ) (a s t : List ℕ) (k : ℕ) where
  pub across-same : (r : Checked)
      → r ≡ content_check tid d (a ++ ((s ++ take k t) ++ take (length t - k) (drop k t))) limit
      → r ≡ content_check tid d (a ++ (s ++ t)) limit
  across-same r e =
      e ∙ ap (λ (l : List ℕ). content_check tid d (a ++ ((s ++ take k t) ++ l)) limit) (rest-is k t)
      ∙ ap (λ (l : List ℕ). content_check tid d (a ++ l) limit)
      (append_assoc s (take k t) (drop k t) ∙ ap (λ (l : List ℕ). s ++ l) (take-append-drop k t))

pub across-room : (limit : ℕ) (a s t : List ℕ) (k : ℕ) → k ≤ length t → length a + (length s + length t) ≤ limit
    → length a + ((length s + length (take k t)) + length (take (length t - k) (drop k t))) ≤ limit
across-room limit a s t k h r = rw (rest-is k t, length-take-le k t h, length-drop k t) (omega arith)

-- The whole fields of a part, what is left of it, and the other part.
module _ (tid : ℕ) (d : Direction) (limit : ℕ) (h t : List ℕ) (k : ℕ) where
  pub parts_same : (r : Checked) → r ≡ content_check tid d (take k h ++ (take (length h - k) (drop k h) ++ t)) limit
      → r ≡ content_check tid d (h ++ t) limit
  parts_same r e =
      e ∙ ap (λ (l : List ℕ). content_check tid d (take k h ++ (l ++ t)) limit) (rest-is k h)
      ∙ ap (λ (l : List ℕ). content_check tid d l limit)
      (sym (append_assoc (take k h) (drop k h) t) ∙ ap (λ (l : List ℕ). l ++ t) (take-append-drop k h))

pub parts-ready : (limit : ℕ) (h t : List ℕ) (k : ℕ)
    → (k ≤ length h) × (ended (run_of field (take k h)) ≡ true) × (front field (drop k h) ≡ 0)
    → (k ≡ length h → ⊥)
    → length h + length t ≤ limit
    → (ended (run_of field (take k h)) ≡ true) × (front field (take (length h - k) (drop k h)) ≡ 0)
    × (0 < length (take (length h - k) (drop k h)))
    × (length (take k h) + (length (take (length h - k) (drop k h)) + length t) ≤ limit)
parts-ready limit h t k f n r =
    let m = f.0 in
    rw (rest-is k h) (
      f.1,
      f.2,
      rw (length-drop k h) (omega arith),
      rw (length-take-le k h m, length-drop k h) (omega arith),
    )

-- Where the whole fields are all of a part.
pub whole-all : (h : List ℕ) (k : ℕ) → k ≡ length h → ended (run_of field (take k h)) ≡ true
    → ended (run_of field h) ≡ true
whole-all h k e w = rw (e, take-length h) at w

-- ─── The bytes of two parts ───

module _ (h t : List ℕ) where
  pub byte-head : (i : ℕ) → i < length h → get_or h i 0 ≡ get_or (h ++ t) i 0
  byte-head i k = sym (byte-append h t i k)

  pub byte-tail : (i : ℕ) → length h ≤ i → get_or t (i - length h) 0 ≡ get_or (h ++ t) i 0
  byte-tail i k =
      let e : length h + (i - length h) ≡ i = omega arith in
      sym (get_or-append-add h t (i - length h) 0) ∙ ap (λ (j : ℕ). get_or (h ++ t) j 0) e

  -- The size of the field at their front.
  module _ (len : ℕ) (l : len ≡ length h + length t) where
    both : length (h ++ t) ≡ len
    both = length-append h t ∙ sym l

    pub size_none : len < 6 → (0 ≡ front field (h ++ t)) × (0 ≤ len)
    size_none k = (sym (field-short (h ++ t) 0 (omega (arith, both))), omega arith)

    module _ (x y : ℕ) (p : x ≡ get_or (h ++ t) 4 0) (q : y ≡ get_or (h ++ t) 5 0) where
      size_is : 6 + (x * 256 + y) ≡ 6 + be16_of (h ++ t) 4
      unfolding be16_of
      size_is = rw (p, q)

      pub size-short : len < 6 + (x * 256 + y) → (0 ≡ front field (h ++ t)) × (0 ≤ len)
      size-short k = (sym (field-short (h ++ t) 0 (omega (arith, both, size_is))), omega arith)

      pub size-whole : 6 + (x * 256 + y) ≤ len
          → (6 + (x * 256 + y) ≡ front field (h ++ t)) × (6 + (x * 256 + y) ≤ len)
      size-whole k = (size_is ∙ sym (field-whole (h ++ t) 0 (omega (arith, both, size_is))), k)
