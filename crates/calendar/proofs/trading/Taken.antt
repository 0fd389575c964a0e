-- What Set takes and refuses, by the numbers given. Assumes nothing.
use Prim.Native.Nat.{ℕ, ◌/◌, ◌%◌, ◌<◌}
use native.Mathlib.Omega.{arith}
use mathlib.Core.Path.{◌≡◌, refl, sym, ◌∙◌}
use mathlib.Core.Logic.{◌↔◌}
use mathlib.Core.List.{List}
use mathlib.Core.Bool.{Bool, true, false, cond, not, ◌&&◌, false≢true}
use borrow.Author.Tests.{le-ltb, lt-leb, eq-eqb, ltb-true, ltb-false, leb-true, leb-false, eqb-true, not-false}
use lib.ListN.{length}
use lib.Dec.{leb, ltb, eqb}
use Rattle.ftd.specs.declared.refusal.Refusal.TheVariants.{Sessions, Holiday}
use Rattle.calendar.specs.declared.trading.Calendar.{Calendar}
use Rattle.calendar.specs.Types.{SetAnswer}
use Rattle.calendar.specs.Calendar.{some, first_of, last_of, wrong_session, overlap, overlaps_before, wrong_sessions}
use Rattle.calendar.specs.Calendar.{real_number, unreal, wrong_holidays, padded, step, set_of}
use Rattle.calendar.specs.Calendar.Taken.{Sound, Dated, SetLaws}
use Rattle.calendar.proofs.Some.{or-neither, some-found, none-at}
use Rattle.calendar.proofs.sessions.One.{one-alone}
use Rattle.calendar.proofs.trading.Times.{says-has}
use Rattle.std.specs.Prelude.{Ok, Err}

none-some : (p : ℕ → Bool) (n : ℕ) → ((i : ℕ) → i < n → p i ≡ false) → some n p ≡ false
none-some p n f = go (some n p) refl
  where
    go : (b : Bool) → some n p ≡ b → b ≡ false
    go false e = refl
    go true e =
        let x = some-found p n e in
        absurd (false≢true (sym (f x.0 x.1) ∙ x.2))

-- ─── Sessions ───

module _ (l : List ℕ) where
  sound-says : wrong_sessions l ≡ false → Sound l
  unfolding wrong_sessions wrong_session
  sound-says w =
      let a = or-neither (not (eqb (length l % 3) 0)) _ w in
      let b = or-neither (ltb 8 (length l / 3)) _ a.1 in
      let c = or-neither (some (length l / 3) (wrong_session l)) _ b.1 in
      record {
        whole = eqb-true (length l % 3) 0 (not-false _ a.0);
        few = ltb-false 8 (length l / 3) b.0;
        lasts = λ i h. leb-false (last_of l i) (first_of l i) (parts c.0 i h).0;
        ends = λ i h. ltb-false 86400 (last_of l i) (parts c.0 i h).1;
        alone = λ second i j h k p q. one-alone l second w i j h k (says-has l second i p) (says-has l second j q);
      }
    where
      parts : some (length l / 3) (wrong_session l) ≡ false → (i : ℕ) → i < length l / 3
          → (leb (last_of l i) (first_of l i) ≡ false) × (ltb 86400 (last_of l i) ≡ false)
      parts c i h =
          or-neither (leb (last_of l i) (first_of l i)) (ltb 86400 (last_of l i)) (none-at (wrong_session l) (length l / 3) i c h)

  module _ (s : Sound l) where
    none-wrong : (i : ℕ) → i < length l / 3 → wrong_session l i ≡ false
    unfolding wrong_session
    none-wrong i h =
        rw (lt-leb (last_of l i) (first_of l i) (s.lasts i h), le-ltb 86400 (last_of l i) (s.ends i h))

    -- Two that overlap have the later first second in common.
    common : (i j : ℕ) → i < length l / 3 → j < length l / 3 → first_of l i < last_of l j → first_of l j < last_of l i → i ≡ j
    common i j h k p q = go (leb (first_of l i) (first_of l j)) refl
      where
        go : (b : Bool) → leb (first_of l i) (first_of l j) ≡ b → i ≡ j
        go true e =
            s.alone (first_of l j) i j h k (record { from = leb-true (first_of l i) (first_of l j) e; before = q })
            (record { from = omega arith; before = s.lasts j k })
        go false e =
            s.alone (first_of l i) i j h k (record { from = omega arith; before = s.lasts i h })
            (record { from = omega (arith, leb-false (first_of l i) (first_of l j) e); before = p })

    apart : (i j : ℕ) → i < length l / 3 → j < i → overlap l i j ≡ false
    unfolding overlap
    apart i j h k = go (ltb (first_of l i) (last_of l j)) refl (ltb (first_of l j) (last_of l i)) refl
      where
        go : (a : Bool) → ltb (first_of l i) (last_of l j) ≡ a → (b : Bool) → ltb (first_of l j) (last_of l i) ≡ b
            → (a && b) ≡ false
        go true e true f =
            let q = common i j h (omega arith) (ltb-true (first_of l i) (last_of l j) e) (ltb-true (first_of l j) (last_of l i) f) in
            absurd (omega (arith, k, q))
        go true e false f = refl
        go false e b f = refl

    says-sound : wrong_sessions l ≡ false
    unfolding wrong_sessions
    says-sound =
        rw (
          eq-eqb (length l % 3) 0 s.whole,
          le-ltb 8 (length l / 3) s.few,
          none-some (wrong_session l) (length l / 3) none-wrong,
        )
        (none-some (overlaps_before l) (length l / 3) (λ i h. none-some (overlap l i) i (λ j k. apart i j h k)))

-- ─── Holidays ───

module _ (l : List ℕ) where
  dated-says : wrong_holidays l ≡ false → Dated l
  unfolding wrong_holidays real_number
  dated-says w =
      let a = or-neither (ltb 32 (length l)) _ w in
      record {
        few = ltb-false 32 (length l) a.0;
        real = λ i h. not-false _ (none-at (unreal l) (length l) i a.1 h);
      }

  says-dated : Dated l → wrong_holidays l ≡ false
  unfolding wrong_holidays real_number
  says-dated d =
      rw (le-ltb 32 (length l) d.few) (none-some (unreal l) (length l) (λ i h. rw (d.real i h)))

-- ─── Set ───

abbrev answer_by : Bool → Bool → SetAnswer
answer_by a b = cond a (Err Sessions) (cond b (Err Holiday) (Ok tt))

is-done : (a b : Bool) → answer_by a b ≡ (Ok tt) → (a ≡ false) × (b ≡ false)
is-done true b e = absurd (let z : ◌≡◌ {A = ℕ} 0 1 = cc in omega arith)
is-done false true e = absurd (let z : ◌≡◌ {A = ℕ} 0 1 = cc in omega arith)
is-done false false e = (refl, refl)

is-26 : (a b : Bool) → answer_by a b ≡ Err Sessions → a ≡ true
is-26 true b e = refl
is-26 false true e = absurd (let z : ◌≡◌ {A = ℕ} 0 1 = cc in omega arith)
is-26 false false e = absurd (let z : ◌≡◌ {A = ℕ} 0 1 = cc in omega arith)

is-27 : (a b : Bool) → answer_by a b ≡ Err Holiday → (a ≡ false) × (b ≡ true)
is-27 true b e = absurd (let z : ◌≡◌ {A = ℕ} 0 1 = cc in omega arith)
is-27 false true e = (refl, refl)
is-27 false false e = absurd (let z : ◌≡◌ {A = ℕ} 0 1 = cc in omega arith)

-- A test that fails where something holds.
is_true : {A : Type 0} (b : Bool) → (b ≡ false → A) → (A → ⊥) → b ≡ true
is_true true f n = refl
is_true false f n = absurd (n (f refl))

module _ (c : Calendar) (ss hs : List ℕ) where
  set-answer : (set_of c ss hs).answer ≡ answer_by (wrong_sessions ss) (wrong_holidays hs)
  unfolding set_of
  set-answer = go (wrong_sessions ss) (wrong_holidays hs)
    where
      go : (a b : Bool)
          → (cond a (step c (Err Sessions))
          (cond b (step c (Err Holiday)) (step (record { sessions = padded 24 ss; holidays = padded 32 hs }) (Ok tt)))
          ).answer
          ≡ answer_by a b
      go true b = refl
      go false true = refl
      go false false = refl

  set-done : ((set_of c ss hs).answer ≡ (Ok tt)) ↔ (Sound ss × Dated hs)
  set-done = (to, from)
    where
      to : (set_of c ss hs).answer ≡ (Ok tt) → Sound ss × Dated hs
      to e =
          let x = is-done (wrong_sessions ss) (wrong_holidays hs) (sym set-answer ∙ e) in
          (sound-says ss x.0, dated-says hs x.1)

      from : Sound ss × Dated hs → (set_of c ss hs).answer ≡ (Ok tt)
      from x = set-answer ∙ (rw (says-sound ss x.0, says-dated hs x.1))

  set-26 : ((set_of c ss hs).answer ≡ Err Sessions) ↔ (Sound ss → ⊥)
  set-26 = (to, from)
    where
      to : (set_of c ss hs).answer ≡ Err Sessions → Sound ss → ⊥
      to e s = false≢true (sym (says-sound ss s) ∙ is-26 (wrong_sessions ss) (wrong_holidays hs) (sym set-answer ∙ e))

      from : (Sound ss → ⊥) → (set_of c ss hs).answer ≡ Err Sessions
      from n = set-answer ∙ (rw (is_true (wrong_sessions ss) (sound-says ss) n))

  set-27 : ((set_of c ss hs).answer ≡ Err Holiday) ↔ (Sound ss × (Dated hs → ⊥))
  set-27 = (to, from)
    where
      to : (set_of c ss hs).answer ≡ Err Holiday → Sound ss × (Dated hs → ⊥)
      to e =
          let x = is-27 (wrong_sessions ss) (wrong_holidays hs) (sym set-answer ∙ e) in
          (sound-says ss x.0, λ d. false≢true (sym (says-dated hs d) ∙ x.1))

      from : Sound ss × (Dated hs → ⊥) → (set_of c ss hs).answer ≡ Err Holiday
      from x = set-answer ∙ (rw (says-sound ss x.0, is_true (wrong_holidays hs) (dated-says hs) x.1))

pub set-laws : SetLaws
set-laws = record { done = set-done; wrong_sessions = set-26; wrong_holidays = set-27 }
