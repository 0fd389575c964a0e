-- The source over time, of every call: under a day a series' list only grows, days only rise, and a day that is over
-- gets nothing more. Assumes nothing.
use Prim.Native.Nat.{ℕ, ◌≤◌}
use native.Mathlib.Omega.{arith}
use mathlib.Core.Path.{◌≡◌, refl, ap, ◌∙◌}
use mathlib.Core.List.{List, [], ◌∷◌, ◌++◌, append-nil}
use mathlib.Core.Bool.{Bool, true, false, cond, ◌&&◌}
use mathlib.Core.Option.{some}
use borrow.Author.Tests.{leb-true, leb-false, ne_eqb}
use lib.ListN.{get_elem?}
use lib.Dec.{eqb}
use Rattle.ftd.specs.Types.{TradeDate}
use Rattle.flow.specs.Ends.{is_day, up_to}
use Rattle.flow.specs.Answers.{Message}
use Rattle.flow.specs.World.{dated, Event, SenderSide, World, run, step}
use Rattle.flow.specs.Agreement.{of}
use Rattle.flow.proofs.common.Extends.{Extends, place_kept}
use Rattle.flow.proofs.source.Moves.{Move, stays, opens, publishes, logs-in, sends, sends-packet, step-moves}
use Rattle.flow.proofs.source.Growth.{Grown}
use Rattle.flow.proofs.source.Served.{ServedSide}
use Rattle.flow.proofs.source.Kept.{move-rises}
use Rattle.flow.proofs.common.Histories.{of-append}
use Rattle.flow.proofs.common.Days.{up_to-self, Upto, upto-test}
use Rattle.std.specs.Prelude.{Some, None}

-- ─── Number k of a day and series is one message for ever ───

pub published-grows : (v u : SenderSide) → Grown v u → (s d : ℕ)
    → Extends (of s d v.published) (of s d u.published)
published-grows v u g s d =
    let x = g.published in
    (of s d x.0, ap (of s d) x.1 ∙ of-append s d v.published x.0)

pub message-stays : (v u : SenderSide) → Grown v u → (s d i : ℕ) (x : Message)
    → get_elem? (of s d v.published) i ≡ some x → get_elem? (of s d u.published) i ≡ some x
message-stays v u g s d i x q =
    place_kept (of s d v.published) (of s d u.published) (published-grows v u g s d) i x q

-- ─── Days only rise, and stay while no opening comes ───

pub day-rises : (v u : SenderSide) → Move v u → ServedSide v → Upto v.day u.day
day-rises v u m h = go v.day (move-rises v u m h)
  where
    go : (o : TradeDate) → ((d : ℕ) → up_to d o ≡ true → up_to d u.day ≡ true) → Upto o u.day
    go None f = tt
    go (Some d) f = upto-test d u.day (f d (up_to-self d))

pub day-stays : (v u : SenderSide) → Move v u → u.openings ≡ v.openings → u.day ≡ v.day
day-stays v u stays o = refl
day-stays v u (opens date ss rs a b) o = absurd (omega arith)
day-stays v u (publishes s tid content t) o = refl
day-stays v u (logs-in s p content out h x c g t) o = refl
day-stays v u (sends s x a b c) o = refl
day-stays v u (sends-packet s x a b c d) o = refl

pub openings-grow : (v u : SenderSide) → Move v u → v.openings ≤ u.openings
openings-grow v u stays = omega arith
openings-grow v u (opens date ss rs a b) = omega arith
openings-grow v u (publishes s tid content t) = omega arith
openings-grow v u (logs-in s p content out h x c g t) = omega arith
openings-grow v u (sends s x a b c) = omega arith
openings-grow v u (sends-packet s x a b c d) = omega arith

pub openings-run : (w : World) (es : List Event) → w.serving.openings ≤ (run w es).serving.openings
openings-run w [] = omega arith
openings-run w (e ∷ es) =
    let a = openings-grow w.serving (step w e).serving (step-moves w e) in
    let b = openings-run (step w e) es in
    omega arith

-- ─── A day that is over gets nothing more ───

-- A day that is over.
pub record Over (d : ℕ) (v : SenderSide) : Type 0 where
  pub below : up_to d v.day ≡ true
  pub other : is_day d v.day ≡ false

over-opened : (d date : ℕ) (t : TradeDate) → up_to date t ≡ false → up_to d t ≡ true → is_day d (Some date) ≡ false
over-opened d date None a b = cc
over-opened d date (Some e) a b = let g = leb-false date e a in let h = leb-true d e b in ne_eqb date d λ q. omega arith

pub move-over : (d : ℕ) (v u : SenderSide) → Move v u → ServedSide v → Over d v → Over d u
move-over d v u stays h o = o
move-over d v u (opens date ss rs a b) h o =
    record {
      below = move-rises v _ (opens date ss rs a b) h d o.below;
      other = over-opened d date v.day
          (rw h.same-day at b) o.below;
    }
move-over d v u (publishes s tid content t) h o = record { below = o.below; other = o.other }
move-over d v u (logs-in s p content out x y c g t) h o = record { below = o.below; other = o.other }
move-over d v u (sends s x a b c) h o = record { below = o.below; other = o.other }
move-over d v u (sends-packet s x a b c e) h o = record { below = o.below; other = o.other }

none-there : (s d t : ℕ) (day : TradeDate) (m : Message) → is_day d day ≡ false → of s d (dated t day m ∷ []) ≡ []
none-there s d t day m q = go (eqb t s) (is_day d day) q
  where
    go : (a b : Bool) → b ≡ false → cond (a && b) (m ∷ []) [] ≡ []
    go a true q = cc
    go true false q = refl
    go false false q = refl

pub move-closed : (d s : ℕ) (v u : SenderSide) → Move v u → Over d v → of s d u.published ≡ of s d v.published
move-closed d s v u stays o = refl
move-closed d s v u (opens date ss rs a b) o = refl
move-closed d s v u (publishes t tid content z) o =
    of-append s d v.published (dated t v.day (record { tid = tid; content = content }) ∷ [])
    ∙ ap (λ (l : List Message). of s d v.published ++ l)
    (none-there s d t v.day (record { tid = tid; content = content }) o.other)
    ∙ append-nil (of s d v.published)
move-closed d s v u (logs-in t p content out x y c g z) o = refl
move-closed d s v u (sends t x a b c) o = refl
move-closed d s v u (sends-packet t x a b c e) o = refl
