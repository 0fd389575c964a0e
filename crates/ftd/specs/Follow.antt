-- The numbers follow each other (02, No. 12): one statement of any receiver of numbered messages, from any state and
-- along any events. A receiver of either family is one of these.
use Rattle.std.specs.Prelude.{ℕ, zero, suc, ◌+◌, ◌-◌, ◌<◌, ◌≤◌, ◌≡◌, List, [], ◌∷◌, ◌++◌, Bool, true, false, not, ◌&&◌, ◌⊎◌, length}
use Rattle.std.proofs.Math.Option.{Option, none, some}
use Rattle.std.proofs.Math.ListN.{get_elem?}

-- ─── A numbered receiver ───

-- The number wanted next, the state behind an event, the number of the message that is taken, if one is, and whether
-- the event starts a new numbering.
pub record Numbered (S E : Type 0) : Type 0 where
  pub wanted : S → ℕ
  pub step : S → E → S
  pub took : S → E → Option ℕ
  pub anew : S → E → Bool

-- What is asked of it, of every state and event: what starts anew takes nothing; otherwise what is taken is what was
-- wanted, and the next one is wanted then; and where nothing is taken the same one stays wanted.
pub record NumberedLaw {S E : Type 0} (R : Numbered S E) : Type 0 where
  pub starts : (s : S) (e : E) → R.anew s e ≡ true → R.took s e ≡ none
  pub next : (s : S) (e : E) (n : ℕ) → R.anew s e ≡ false → R.took s e ≡ some n
      → (n ≡ R.wanted s) × (R.wanted (R.step s e) ≡ n + 1)
  pub stays : (s : S) (e : E) → R.anew s e ≡ false → R.took s e ≡ none → R.wanted (R.step s e) ≡ R.wanted s

-- ─── Along a list of events ───

abbrev pub run_all : {S E : Type 0} → Numbered S E → S → List E → S
run_all R s [] = s
run_all R s (e ∷ es) = run_all R (R.step s e) es

-- A number in front, if there is one.
abbrev pub also : Option ℕ → List ℕ → List ℕ
also none l = l
also (some n) l = n ∷ l

-- The numbers taken, in order.
abbrev pub takes : {S E : Type 0} → Numbered S E → S → List E → List ℕ
takes R s [] = []
takes R s (e ∷ es) = also (R.took s e) (takes R (R.step s e) es)

-- No event starts anew.
abbrev pub calm : {S E : Type 0} → Numbered S E → S → List E → Bool
calm R s [] = true
calm R s (e ∷ es) = not (R.anew s e) && calm R (R.step s e) es

-- w, w + 1, .., n of them.
abbrev pub counting : ℕ → ℕ → List ℕ
counting w zero = []
counting w (suc n) = w ∷ counting (w + 1) n

-- The last event of a list that starts anew, with what stands before it and behind it.
pub record LastAnew {S E : Type 0} (R : Numbered S E) (s : S) (es : List E) : Type 0 where
  pub before : List E
  pub event : E
  pub behind : List E
  pub whole : es ≡ before ++ (event ∷ behind)
  pub anew : R.anew (run_all R s before) event ≡ true
  pub calmly : calm R (run_all R s (before ++ (event ∷ []))) behind ≡ true

-- ─── The statement ───

pub record Follows {S E : Type 0} (R : Numbered S E) : Type 0 where
  -- While nothing starts anew, the numbers taken are the one wanted at first, the one behind it and so on, up to the one
  -- before that which is wanted at the end.
  pub grows : (s : S) (es : List E) → calm R s es ≡ true → R.wanted s ≤ R.wanted (run_all R s es)
  pub follow : (s : S) (es : List E) → calm R s es ≡ true
      → takes R s es ≡ counting (R.wanted s) (R.wanted (run_all R s es) - R.wanted s)
  -- So their count is the difference of what was wanted; number i of them, from 0, is i above the first; and none is
  -- there twice.
  pub count : (s : S) (es : List E) → calm R s es ≡ true
      → length (takes R s es) ≡ R.wanted (run_all R s es) - R.wanted s
  pub place : (s : S) (es : List E) → calm R s es ≡ true → (i : ℕ) → i < length (takes R s es)
      → get_elem? (takes R s es) i ≡ some (R.wanted s + i)
  pub once : (s : S) (es : List E) → calm R s es ≡ true → (i j n : ℕ) → get_elem? (takes R s es) i ≡ some n
      → get_elem? (takes R s es) j ≡ some n → i ≡ j
  -- Stretches join, with any events in them.
  pub join : (s : S) (es fs : List E) → takes R s (es ++ fs) ≡ takes R s es ++ takes R (run_all R s es) fs
  pub onward : (s : S) (es fs : List E) → run_all R s (es ++ fs) ≡ run_all R (run_all R s es) fs
  -- Every list is calm or has a last event that starts anew; the numbers taken since follow what was wanted then.
  pub split : (s : S) (es : List E) → (calm R s es ≡ true) ⊎ LastAnew R s es
  pub since : (s : S) (es : List E) (l : LastAnew R s es) →
      let t = run_all R s (l.before ++ (l.event ∷ [])) in
      takes R s es ≡ takes R s l.before ++ counting (R.wanted t) (R.wanted (run_all R s es) - R.wanted t)
