-- The verdict on a message's events is that on the first that is refused. Assumes nothing.
use Prim.Native.Nat.{ℕ}
use mathlib.Core.Path.{◌≡◌, refl, sym, ap, ◌∙◌}
use mathlib.Core.Logic.{◌↔◌}
use mathlib.Core.List.{List, [], ◌∷◌, ◌++◌, append-nil, append_assoc}
use native.Mathlib.Omega.{arith}
use Rattle.ftd.specs.declared.refusal.Refusal.{Refusal}
use Rattle.book.specs.declared.event.Event.{Event}
use Rattle.book.specs.Types.{Outcome}
use Rattle.book.specs.Verdict.{verdict_of, or_else, verdicts_of, FirstRefused}
use Rattle.book.proofs.agreement.Events.{not_done}
use Rattle.std.specs.Prelude.{Ok, Err}

head-same : (a b : Event) (l k : List Event) → a ∷ l ≡ b ∷ k → (a ≡ b) × (l ≡ k)
head-same a b l k e =
    let x : a ≡ b = cc in
    let y : l ≡ k = cc in
    (x, y)

not-empty : (a : Event) (l k : List Event) → [] ≡ l ++ (a ∷ k) → ⊥
not-empty a [] k e = let z : ◌≡◌ {A = ℕ} 0 1 = cc in omega arith
not-empty a (x ∷ l) k e = let z : ◌≡◌ {A = ℕ} 0 1 = cc in omega arith

-- One event further.
module _ (r : Refusal) where
  further : (es : List Event) (e : Event) (new : List Event) → verdict_of es e ≡ (Ok tt)
      → FirstRefused (es ++ (e ∷ [])) new r
      → FirstRefused es (e ∷ new) r
  further es e new d x = record {
    before = e ∷ x.before;
    event = x.event;
    behind = x.behind;
    whole = ap (λ (l : List Event). e ∷ l) x.whole;
    passed = passed;
    refused = rw (append_assoc es (e ∷ []) x.before) at x.refused;
  }
    where
      passed : (xs : List Event) (a : Event) (bs : List Event) → e ∷ x.before ≡ xs ++ (a ∷ bs) → verdict_of (es ++ xs) a ≡ (Ok tt)
      passed [] a bs q = rw (append-nil es, ← (head-same e a x.before bs q).0) d
      passed (y ∷ xs) a bs q =
          let z = head-same e y x.before (xs ++ (a ∷ bs)) q in
          rw (← z.0) (rw (append_assoc es (e ∷ []) xs) at (x.passed xs a bs z.1))

  pub first_says : (new es : List Event) → verdicts_of es new ≡ Err r → FirstRefused es new r
  first_says [] es e = absurd (not_done r (sym e))
  first_says (x ∷ new) es e = go (verdict_of es x) refl (first_says new (es ++ (x ∷ []))) e
    where
      go : (o : Outcome) → verdict_of es x ≡ o
          → (verdicts_of (es ++ (x ∷ [])) new ≡ Err r → FirstRefused (es ++ (x ∷ [])) new r)
          → or_else o (verdicts_of (es ++ (x ∷ [])) new) ≡ Err r
          → FirstRefused es (x ∷ new) r
      go (Ok tt) d rest q = further es x new d (rest q)
      go (Err k) d rest q = record {
        before = [];
        event = x;
        behind = new;
        whole = refl;
        passed = λ xs a bs z. absurd (not-empty a xs bs z);
        refused = rw (append-nil es) (d ∙ q);
      }

  pub says_first : (before es : List Event) (e : Event) (behind : List Event)
      → ((xs : List Event) (a : Event) (bs : List Event) → before ≡ xs ++ (a ∷ bs) → verdict_of (es ++ xs) a ≡ (Ok tt))
      → verdict_of (es ++ before) e ≡ Err r
      → verdicts_of es (before ++ (e ∷ behind)) ≡ Err r
  says_first [] es e behind p q =
      let d : verdict_of es e ≡ Err r = rw (append-nil es) at q in
      rw d
  says_first (x ∷ before) es e behind p q =
      let d : verdict_of es x ≡ (Ok tt) = rw (append-nil es) at (p [] x before refl) in
      rw d
      (says_first before (es ++ (x ∷ [])) e behind
      (λ xs a bs z. rw (append_assoc es (x ∷ []) xs) (p (x ∷ xs) a bs (ap (λ (l : List Event). x ∷ l) z)))
      (rw (append_assoc es (x ∷ []) before) q))

  pub first-is : (es new : List Event) → (verdicts_of es new ≡ Err r) ↔ FirstRefused es new r
  first-is es new = (first_says new es, from)
    where
      from : FirstRefused es new r → verdicts_of es new ≡ Err r
      from x = rw x.whole (says_first x.before es x.event x.behind x.passed x.refused)
