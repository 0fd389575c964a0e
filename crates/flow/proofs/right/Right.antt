-- Right for a source: trade date, last number, handed on and reported of one series, against what was published.
-- Assumes nothing.
use Prim.Native.Nat.{ℕ, ◌+◌, ◌<◌, ◌≤◌}
use native.Mathlib.Omega.{arith}
use native.Mathlib.Numerals.{add-one}
use mathlib.Core.Path.{◌≡◌, refl, sym, ap, ◌∙◌}
use mathlib.Core.List.{List, [], ◌∷◌, ◌++◌, map}
use mathlib.Core.Bool.{Bool, true, false}
use mathlib.Core.Option.{some}
use borrow.Author.Tests.{eqb-true, eqb-false}
use lib.ListN.{length, take, length-append, length-take, get_elem?}
use lib.Seq.{take-suc, take-append-le}
use lib.Dec.{eqb}
use Rattle.ftd.specs.Types.{TradeDate}
use Rattle.flow.specs.Answers.{Message}
use Rattle.flow.specs.World.{Dated, dated}
use Rattle.flow.specs.Agreement.{of, latest}
use Rattle.flow.proofs.common.Histories.{of-append, of-here, of-away, of-else, latest-append}
use Rattle.flow.proofs.common.Extends.{place_inside, place-get_d}
use Rattle.flow.proofs.common.Days.{Above}
use Rattle.std.specs.Prelude.{Some, None}

-- Of day x: what was handed on is the first published, as many as were reported; on the kept day that is last, and of a
-- later day there is nothing.
pub record OnDay (x : ℕ) (date : TradeDate) (last : ℕ) (published handed : List Message) (reports : List ℕ) : Type 0
  where
    pub first : handed ≡ take (latest 0 reports) published
    pub exactly : length handed ≡ latest 0 reports
    pub today : date ≡ Some x → last ≡ latest 0 reports
    pub later : Above x date → (handed ≡ []) × (reports ≡ [])

-- Of every day.
abbrev pub Right : ℕ → TradeDate → ℕ → List (Dated Message) → List (Dated Message) → List (Dated ℕ) → Type 0
Right s date last P H R = (x : ℕ) → OnDay x date last (of s x P) (of s x H) (of s x R)

-- ─── One day ───

same_at : {A : Type 0} (d x : ℕ) → (d ≡ x → ⊥) → Some d ≡ Some x → A
same_at d x n e = let y : d ≡ x = cc in absurd (n y)

module _ (x : ℕ) (p h : List Message) (r : List ℕ) where
  -- Another day is the kept one now, and none below the one before.
  on-away : (date : TradeDate) (last d last' : ℕ) → OnDay x date last p h r → (d ≡ x → ⊥)
      → (Above x (Some d) → Above x date) → OnDay x (Some d) last' p h r
  on-away date last d last' o n a =
      record { first = o.first; exactly = o.exactly; today = λ e. same_at d x n e; later = λ k. o.later (a k) }

  on-new : (date : TradeDate) (last : ℕ) → OnDay x date last p h r → Above x date → OnDay x (Some x) 0 p h (r ++ (0 ∷ []))
  on-new date last o a =
      let e = o.later a in
      let z = latest-append 0 r 0 in
      record { first = rw (z, e.0); exactly = rw (z, e.0); today = λ q. sym z; later = λ k. absurd (omega arith) }

  on-report : (last : ℕ) → OnDay x (Some x) last p h r → OnDay x (Some x) last p h (r ++ (last ∷ []))
  on-report last o =
      let z = latest-append 0 r last in
      let t = o.today refl in
      record {
        first = o.first ∙ ap (λ (n : ℕ). take n p) (sym t ∙ sym z);
        exactly = o.exactly ∙ sym t
            ∙ sym z;
        today = λ q. sym z;
        later = λ k. absurd (omega arith);
      }

  on-hands : (last : ℕ) (y : Message) → OnDay x (Some x) last p h r → get_elem? p last ≡ some y
      → OnDay x (Some x) (last + 1) p (h ++ (y ∷ [])) (r ++ ((last + 1) ∷ []))
  on-hands last y o g =
      let z = latest-append 0 r (last + 1) in
      let t = o.today refl in
      let f : h ≡ take last p = o.first ∙ ap (λ (n : ℕ). take n p) (sym t) in
      let k : take (last + 1) p ≡ take last p ++ (y ∷ []) =
      rw add-one
      (take-suc p last y (place_inside p last y g)
      ∙ ap (λ (q : Message). take last p ++ (q ∷ [])) (place-get_d p last y y g)) in
      record {
        first = rw (z, k) (ap (λ (q : List Message). q ++ (y ∷ [])) f);
        exactly = rw (z, length-append h (y ∷ [])) (omega (arith, o.exactly));
        today = λ q. sym z;
        later = λ q. absurd (omega arith);
      }

  on-grows : (date : TradeDate) (last : ℕ) (q : List Message) → OnDay x date last p h r → OnDay x date last (p ++ q) h r
  on-grows date last q o =
      let n : latest 0 r ≤ length p = omega (arith, o.exactly, rw length-take at (ap length o.first)) in
      record {
        first = o.first ∙ sym (take-append-le (latest 0 r) p q n);
        exactly = o.exactly;
        today = o.today;
        later = o.later;
      }

-- ─── Every day ───

module _ (s : ℕ) (P H : List (Dated Message)) (R : List (Dated ℕ)) where
  -- More is published.
  pub right-grows : (date : TradeDate) (last : ℕ) (Q : List (Dated Message)) → Right s date last P H R
      → Right s date last (P ++ Q) H R
  right-grows date last Q o x =
      rw (of-append s x P Q) (on-grows x (of s x P) (of s x H) (of s x R) date last (of s x Q) (o x))

  -- Something of another series.
  pub right-else : (date : TradeDate) (last t : ℕ) (a b : TradeDate) (ms : List Message) (ks : List ℕ) → (s ≡ t → ⊥)
      → Right s date last P H R
      → Right s date last P (H ++ map (dated t a) ms) (R ++ map (dated t b) ks)
  right-else date last t a b ms ks n o x = rw (of-else s t x a H ms n, of-else s t x b R ks n) (o x)

  -- A new day.
  pub right_new : (date : TradeDate) (last d : ℕ) → Above d date → ((x : ℕ) → d < x → Above x date)
      → Right s date last P H R
      → Right s (Some d) 0 P H (R ++ map (dated s (Some d)) (0 ∷ []))
  right_new date last d a up o x = go (eqb d x) refl
    where
      go : (b : Bool) → eqb d x ≡ b → OnDay x (Some d) 0 (of s x P) (of s x H)
          (of s x (R ++ map (dated s (Some d)) (0 ∷ [])))
      go true q =
          let e : d ≡ x = eqb-true d x q in
          rw (← e) (rw (of-here s d R (0 ∷ [])) (on-new d (of s d P) (of s d H) (of s d R) date last (o d) a))
      go false q =
          let n = eqb-false d x q in
          rw (of-away s d x R (0 ∷ []) n) (on-away x (of s x P) (of s x H) (of s x R) date last d 0 (o x) n (up x))

  module _ (d last : ℕ) (o : Right s (Some d) last P H R) where
    -- The last number is reported once more.
    pub right-report : Right s (Some d) last P H (R ++ map (dated s (Some d)) (last ∷ []))
    right-report x = go (eqb d x) refl
      where
        go : (b : Bool) → eqb d x ≡ b → OnDay x (Some d) last (of s x P) (of s x H)
            (of s x (R ++ map (dated s (Some d)) (last ∷ [])))
        go true q =
            let e : d ≡ x = eqb-true d x q in
            rw (← e) (rw (of-here s d R (last ∷ [])) (on-report d (of s d P) (of s d H) (of s d R) last (o d)))
        go false q = rw (of-away s d x R (last ∷ []) (eqb-false d x q)) (o x)

    -- The next one is handed on.
    pub right-hands : (y : Message) → get_elem? (of s d P) last ≡ some y
        → Right s (Some d) (last + 1) P (H ++ map (dated s (Some d)) (y ∷ [])) (R ++ map (dated s (Some d)) ((last + 1) ∷ []))
    right-hands y g x = go (eqb d x) refl
      where
        go : (b : Bool) → eqb d x ≡ b → OnDay x (Some d) (last + 1) (of s x P)
            (of s x (H ++ map (dated s (Some d)) (y ∷ []))) (of s x (R ++ map (dated s (Some d)) ((last + 1) ∷ [])))
        go true q =
            let e : d ≡ x = eqb-true d x q in
            rw (← e) (rw (of-here s d R ((last + 1) ∷ []), of-here s d H (y ∷ []))
            (on-hands d (of s d P) (of s d H) (of s d R) last y (o d) g))
        go false q =
            let n = eqb-false d x q in
            rw (of-away s d x R ((last + 1) ∷ []) n, of-away s d x H (y ∷ []) n)
            (on-away x (of s x P) (of s x H) (of s x R) (Some d) last d (last + 1) (o x) n (λ k. k))

-- Before anything.
pub right-start : (s : ℕ) (P : List (Dated Message)) → Right s None 0 P [] []
right-start s P x = record { first = refl; exactly = refl; today = λ e. refl; later = λ a. (refl, refl) }
