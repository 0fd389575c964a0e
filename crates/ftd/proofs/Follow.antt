-- The numbers follow each other, of any numbered receiver. Assumes nothing.
use Prim.Native.Nat.{ℕ, zero, suc, ◌+◌, ◌-◌, ◌<◌, ◌≤◌}
use native.Mathlib.Omega.{arith}
use mathlib.Core.Path.{◌≡◌, refl, ap, sym, ◌∙◌}
use mathlib.Core.List.{List, [], ◌∷◌, ◌++◌, append_assoc, append-nil}
use mathlib.Core.Logic.{◌⊎◌, inl, inr}
use mathlib.Core.Bool.{Bool, true, false, not, ◌&&◌}
use mathlib.Core.Option.{Option, none, some, none-ne-some}
use lib.ListN.{length, get_elem?}
use Rattle.ftd.specs.Follow.{Numbered, NumberedLaw, run_all, also, takes, calm, counting, LastAnew, Follows}

-- ─── Counting ───

pub counting-length : (w n : ℕ) → length (counting w n) ≡ n
counting-length w zero = refl
counting-length w (suc n) = ap suc (counting-length (w + 1) n)

pub counting-place : (w n i : ℕ) → i < n → get_elem? (counting w n) i ≡ some (w + i)
counting-place w zero i h = absurd (omega arith)
counting-place w (suc n) zero h = ap some (omega arith)
counting-place w (suc n) (suc i) h = counting-place (w + 1) n i (omega arith) ∙ ap some (omega arith)

-- What stands at a place is so much above the first.
counting-at : (w n i k : ℕ) → get_elem? (counting w n) i ≡ some k → k ≡ w + i
counting-at w zero i k q = absurd (none-ne-some k q)
counting-at w (suc n) zero k q = let z : w ≡ k = cc in omega arith
counting-at w (suc n) (suc i) k q = omega (arith, counting-at (w + 1) n i k q)

pub counting-once : (w n i j k : ℕ) → get_elem? (counting w n) i ≡ some k → get_elem? (counting w n) j ≡ some k → i ≡ j
counting-once w n i j k p q = omega (arith, counting-at w n i k p, counting-at w n j k q)

-- One more in front.
counting_more : (w n : ℕ) (l : List ℕ) → w + 1 ≤ n → l ≡ counting (w + 1) (n - (w + 1)) → w ∷ l ≡ counting w (n - w)
counting_more w n l h q =
    let k : n - w ≡ suc (n - (w + 1)) = omega arith in
    rw (q, k)

-- ─── Along a list ───

module _ {S E : Type 0} (R : Numbered S E) where
  also-join : (o : Option ℕ) (a b : List ℕ) → also o (a ++ b) ≡ also o a ++ b
  also-join none a b = refl
  also-join (some n) a b = refl

  join : (s : S) (es fs : List E) → takes R s (es ++ fs) ≡ takes R s es ++ takes R (run_all R s es) fs
  join s [] fs = refl
  join s (e ∷ es) fs = ap (also (R.took s e)) (join (R.step s e) es fs) ∙ also-join (R.took s e) _ _

  onward : (s : S) (es fs : List E) → run_all R s (es ++ fs) ≡ run_all R (run_all R s es) fs
  onward s [] fs = refl
  onward s (e ∷ es) fs = onward (R.step s e) es fs

  -- The event in front is the last that starts anew, or one behind it is.
  split : (s : S) (es : List E) → (calm R s es ≡ true) ⊎ LastAnew R s es
  split s [] = inl refl
  split s (e ∷ es) = go (split (R.step s e) es)
    where
      here : (b : Bool) → R.anew s e ≡ b → calm R (R.step s e) es ≡ true
          → (calm R s (e ∷ es) ≡ true) ⊎ LastAnew R s (e ∷ es)
      here true a c =
          inr (record { before = []; event = e; behind = es; whole = refl; anew = a; calmly = c })
      here false a c = inl (rw (a, c))

      go : (calm R (R.step s e) es ≡ true) ⊎ LastAnew R (R.step s e) es
          → (calm R s (e ∷ es) ≡ true) ⊎ LastAnew R s (e ∷ es)
      go (inl c) = here (R.anew s e) refl c
      go (inr l) =
          inr (record {
            before = e ∷ l.before;
            event = l.event;
            behind = l.behind;
            whole = ap (λ (r : List E). e ∷ r) l.whole;
            anew = l.anew;
            calmly = l.calmly;
          })

module _ {S E : Type 0} (R : Numbered S E) (law : NumberedLaw R) where
  -- The number wanted at the end is not below, and those taken count up to it.
  along : (s : S) (es : List E) → calm R s es ≡ true
      → (R.wanted s ≤ R.wanted (run_all R s es))
      × (takes R s es ≡ counting (R.wanted s) (R.wanted (run_all R s es) - R.wanted s))
  along s [] c = let z : R.wanted s - R.wanted s ≡ 0 = omega arith in (omega arith, rw z)
  along s (e ∷ es) c = go (R.anew s e) refl c (along (R.step s e) es) (R.took s e) refl
    where
      go : (b : Bool) → R.anew s e ≡ b → (not b && calm R (R.step s e) es) ≡ true
          → (calm R (R.step s e) es ≡ true
          → (R.wanted (R.step s e) ≤ R.wanted (run_all R s (e ∷ es)))
          × (takes R (R.step s e) es
          ≡ counting (R.wanted (R.step s e)) (R.wanted (run_all R s (e ∷ es)) - R.wanted (R.step s e))))
          → (o : Option ℕ) → R.took s e ≡ o
          → (R.wanted s ≤ R.wanted (run_all R s (e ∷ es)))
          × (also o (takes R (R.step s e) es)
          ≡ counting (R.wanted s) (R.wanted (run_all R s (e ∷ es)) - R.wanted s))
      go true a c r o q = absurd (let z : ◌≡◌ {A = ℕ} 0 1 = cc in omega arith)
      go false a c r none q = rw (law.stays s e a q) at (r c)
      go false a c r (some n) q =
          let k = law.next s e n a q in
          let w = R.wanted (run_all R s (e ∷ es)) in
          let x : R.wanted (R.step s e) ≡ R.wanted s + 1 = omega (arith, k.0, k.1) in
          let m : R.wanted s + 1 ≤ w = omega (arith, x, (r c).0) in (
            omega (arith, m),
            ap (λ (i : ℕ). i ∷ takes R (R.step s e) es) k.0
                ∙ counting_more (R.wanted s) w (takes R (R.step s e) es) m (rw x at (r c).1),
          )

  since : (s : S) (es : List E) (l : LastAnew R s es) →
      let t = run_all R s (l.before ++ (l.event ∷ [])) in
      takes R s es ≡ takes R s l.before ++ counting (R.wanted t) (R.wanted (run_all R s es) - R.wanted t)
  since s es l =
      let t = run_all R s (l.before ++ (l.event ∷ [])) in
      let q : l.before ++ (l.event ∷ l.behind) ≡ (l.before ++ (l.event ∷ [])) ++ l.behind =
      sym (append_assoc l.before (l.event ∷ []) l.behind) in
      let end : run_all R s es ≡ run_all R t l.behind =
      ap (run_all R s) (l.whole ∙ q) ∙ onward R s (l.before ++ (l.event ∷ [])) l.behind in
      let nothing : takes R (run_all R s l.before) (l.event ∷ []) ≡ [] =
      ap (λ (o : Option ℕ). also o []) (law.starts (run_all R s l.before) l.event l.anew) in
      ap (takes R s) (l.whole ∙ q)
      ∙ join R s (l.before ++ (l.event ∷ [])) l.behind
      ∙ ap (λ (a : List ℕ). a ++ takes R t l.behind) (
      join R s l.before (l.event ∷ [])
      ∙ ap (λ (a : List ℕ). takes R s l.before ++ a) nothing
      ∙ append-nil (takes R s l.before)
      )
      ∙ ap (λ (a : List ℕ). takes R s l.before ++ a)
      ((along t l.behind l.calmly).1 ∙ ap (λ (v : S). counting (R.wanted t) (R.wanted v - R.wanted t)) (sym end))

pub follows : {S E : Type 0} (R : Numbered S E) → NumberedLaw R → Follows R
follows R law =
    record {
      grows = λ s es c. (along R law s es c).0;
      follow = λ s es c. (along R law s es c).1;
      count = λ s es c. ap length (along R law s es c).1 ∙ counting-length _ _;
      place = λ s es c i h.
          let q = (along R law s es c).1 in
          rw q (counting-place _ _ i (rw (q, counting-length) at h));
      once = λ s es c i j n a b.
          let q = (along R law s es c).1 in
          counting-once (R.wanted s) (R.wanted (run_all R s es) - R.wanted s) i j n (rw q at a) (rw q at b);
      join = join R;
      onward = onward R;
      split = split R;
      since = since R law;
    }
