-- The numbers of a day are one stretch, along any list of calls. Assumes nothing.
use Prim.Native.Nat.{ℕ, suc, ◌+◌, ◌<◌}
use native.Mathlib.Omega.{arith}
use mathlib.Core.Path.{◌≡◌, refl, ap, ◌∙◌}
use mathlib.Core.List.{List, [], ◌∷◌}
use mathlib.Core.Bool.{Bool, true, false, cond}
use mathlib.Core.Option.{Option, none, some}
use borrow.Author.Tests.{eq-eqb, ne_eqb}
use Rattle.ftd.specs.Follow.{run_all, also, counting}
use Rattle.ftd.specs.Types.{TradeDate}
use Rattle.flow.specs.Ends.{is_day, day_of, last_of, fresh_receiver}
use Rattle.flow.specs.Follows.{Lent, lent, Call, behind, of_series, takes_on, first_on}
use Rattle.flow.specs.Follows.{OneStretch, FromOne}
use Rattle.flow.proofs.common.Days.{day-is}
use Rattle.flow.proofs.ends.ReceiverOpened.{fresh-closed}
use Rattle.flow.proofs.numbers.Does.{Does, nothing, next, opens, begins, call-does}
use Rattle.std.specs.Prelude.{Some}

-- Nothing is taken, whichever day it would be of.
none-on : (x : Bool) (o : Option ℕ) (l : List ℕ) → o ≡ none → also (cond x o none) l ≡ l
none-on true o l q = rw q
none-on false o l q = refl

day-itself : (d : ℕ) (x : TradeDate) → x ≡ Some d → is_day d x ≡ true
day-itself d x q = rw q (eq-eqb d d refl)

-- ─── A day that is over gets nothing more ───

over-turn : (d k : ℕ) (date : TradeDate) (last : ℕ) (anew : Bool) (took : Option ℕ) (day after : TradeDate) (n : ℕ)
    (l : List ℕ) → date ≡ Some k → d < k → Does date last anew took day after n
    → ((i : ℕ) × (after ≡ Some i) × (d < i)) × (also (cond (is_day d day) took none) l ≡ l)
over-turn d k date last anew took day after n l q h (nothing a t x y) = ((k, x ∙ q, h), none-on (is_day d day) took l t)
over-turn d k date last anew took day after n l q h (next a t b x y) = (
  (k, x ∙ q, h),
  ap (λ (z : Bool). also (cond z took none) l) (ap (is_day d) (b ∙ q) ∙ ne_eqb k d λ i. omega arith),
)
over-turn d k date last anew took day after n l q h (opens a t b x y) =
    absurd (let z : ◌≡◌ {A = ℕ} 0 1 = cc in omega arith)
over-turn d k date last anew took day after n l q h (begins i a t x b y) =
    let m : k < i = rw q at b in
    ((i, x, omega arith), none-on (is_day d day) took l t)

over : (s d k : ℕ) (v : Lent) (cs : List Call) → day_of v.end s ≡ Some k → d < k
    → (takes_on s d v cs ≡ []) × (day_of (run_all (of_series s) v cs).end s ≡ Some d → ⊥)
over s d k v [] q h = (refl, λ x. let z : k ≡ d = cc in omega arith)
over s d k v (c ∷ cs) q h =
    let t =
    over-turn d k _ _ _ _ _ _ _ (takes_on s d (behind v c) cs) q h (call-does s v c) in
    let r = over s d t.0.0 (behind v c) cs t.0.1 t.0.2 in
    (t.1 ∙ r.0, r.1)

-- ─── One stretch ───

-- Numbers of day d that count from `first`; at the end trade date and last number are these.
record From (d : ℕ) (end : TradeDate) (last first : ℕ) (l : List ℕ) : Type 0 where
  pub count : ℕ
  pub numbers : l ≡ counting first count
  pub kept : end ≡ Some d → last + 1 ≡ first + count

abbrev first_at : ℕ → TradeDate → ℕ → ℕ
first_at d date last = cond (is_day d date) (last + 1) 1

module _ (d : ℕ) (end : TradeDate) (m : ℕ) (l : List ℕ) where
  -- The day that is kept takes its next number.
  more : (b : Bool) (last : ℕ) → From d end m (cond b (last + 1 + 1) 1) l
      → From d end m (cond b (last + 1) 1) (also (cond b (some (last + 1)) none) l)
  more true last r =
      record {
        count = suc r.count;
        numbers = ap (λ (i : List ℕ). (last + 1) ∷ i) r.numbers;
        kept = λ q. r.kept q ∙ omega arith;
      }
  more false last r = r

  -- A day begins above the kept one: nothing follows of that, and any other starts at 1.
  fresh-day : (b x : Bool) (last : ℕ) → From d end m (cond x (0 + 1) 1) l
      → (b ≡ true → (l ≡ []) × (end ≡ Some d → ⊥)) → From d end m (cond b (last + 1) 1) l
  fresh-day true x last r f =
      record {
        count = 0;
        numbers = (f refl).0;
        kept = λ q. absurd ((f refl).1 q);
      }
  fresh-day false true last r f = r
  fresh-day false false last r f = r

  turn : (date : TradeDate) (last : ℕ) (anew : Bool) (took : Option ℕ) (day after : TradeDate) (n : ℕ)
      → Does date last anew took day after n → From d end m (first_at d after n) l
      → ((k : ℕ) → after ≡ Some k → d < k → (l ≡ []) × (end ≡ Some d → ⊥))
      → From d end m (first_at d date last) (also (cond (is_day d day) took none) l)
  turn date last anew took day after n (nothing a t x y) r f = rw (none-on (is_day d day) took l t) (rw (x, y) at r)
  turn date last anew took day after n (next a t b x y) r f = rw (b, t) (more (is_day d date) last (rw (x, y) at r))
  turn date last anew took day after n (opens a t b x y) r f =
      rw (none-on (is_day d day) took l t, b) (rw x at r)
  turn date last anew took day after n (begins k a t x b y) r f =
      rw (none-on (is_day d day) took l t) (
      fresh-day (is_day d date) (is_day d (Some k)) last (rw (x, y) at r) λ q.
      let i : d < k = rw (day-is d date q) at b in
      f k x i
      )

stretch-from : (s d : ℕ) (v : Lent) (cs : List Call) →
    let e = (run_all (of_series s) v cs).end in
    From d (day_of e s) (last_of e s) (first_on s d v) (takes_on s d v cs)
stretch-from s d v [] = record { count = 0; numbers = refl; kept = λ q. rw (day-itself d (day_of v.end s) q) (omega arith) }
stretch-from s d v (c ∷ cs) =
    turn d _ _ (takes_on s d (behind v c) cs) _ _ _ _ _ _ _ (call-does s v c) (stretch-from s d (behind v c) cs)
    λ k q h.
    over s d k (behind v c) cs q h

pub stretch : (s d : ℕ) (v : Lent) (cs : List Call) → OneStretch s d v cs
stretch s d v cs =
    let r = stretch-from s d v cs in
    record { count = r.count; numbers = r.numbers; kept = r.kept }

-- A fresh end keeps no day.
pub from-fresh : (s d : ℕ) (buffer : List ℕ) (cs : List Call) → FromOne s d buffer cs
from-fresh s d buffer cs =
    let r = stretch s d (lent fresh_receiver buffer) cs in
    let q : first_on s d (lent fresh_receiver buffer) ≡ 1 = rw (fresh-closed s) in
    record {
      k = r.count;
      numbers = r.numbers ∙ ap (λ (i : ℕ). counting i r.count) q;
      kept = λ h. omega (arith, r.kept h, q);
    }
