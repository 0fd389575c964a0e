-- The steps of a line, and lists of them. Assumes nothing.
use Prim.Native.Nat.{ℕ}
use mathlib.Core.Path.{◌≡◌}
use mathlib.Core.List.{List, [], ◌∷◌}
use mathlib.Core.Bool.{true}
use mathlib.Core.Option.{some}
use lib.ListN.{get_elem?}
use Rattle.ftd.specs.Packet.{dated_of}
use Rattle.ftd.specs.declared.refusal.Refusal.{Refusal}
use Rattle.flow.specs.declared.receiver.Received.TheVariants.{Refused as NotTaken}
use Rattle.flow.specs.Ends.{left, wrote, is_open, kept_of, live_of}
use Rattle.flow.specs.Receiving.{dropped}
use Rattle.flow.specs.World.{InSeries, Transmission, Event, World, receives, after_confirm, after_receive, series_in}
use Rattle.flow.specs.World.{step, run}
use Rattle.std.specs.Prelude.{Some, Err}

-- An Answer turned away with a refusal: delivered, and nothing else.
abbrev pub answer_turned : World → InSeries (List ℕ) → Refusal → World
answer_turned w a x =
    receives w (after_confirm w.receiving a.series a.what (left w.receiving.end (Err x)))

-- A Receive turned away: its series' chain is dropped.
abbrev pub receive_turned : World → Transmission → ℕ → ℕ → List ℕ → Refusal → World
receive_turned w m i j p x =
    receives w
    (after_receive w.receiving m i j p
    (wrote (dropped w.receiving.end (series_in (dated_of p).packet)) (NotTaken x) w.receiving.buffer))

pub data LineStep (w : World) : World → Type 0 where
  calls : (e : Event) → LineStep w (step w e)
  rests : LineStep w w
  turns-answer : (i : ℕ) (a : InSeries (List ℕ)) → get_elem? w.serving.answers i ≡ some a → (x : Refusal)
      → LineStep w (answer_turned w a x)
  -- Its series is open and logged in: rows 13 and 14 are passed.
  turns-receive : (i j : ℕ) (m : Transmission) (p : List ℕ) → get_elem? w.serving.transmissions i ≡ some m
      → get_elem? m.packets j ≡ some p
      → is_open w.receiving.end (series_in (dated_of p).packet) ≡ true
      → (live_of w.receiving.end (series_in (dated_of p).packet)).login ≡ true → (x : Refusal)
      → LineStep w (receive_turned w m i j p x)

pub data Steps : World → World → Type 0 where
  none : {w : World} → Steps w w
  then : {w v u : World} → LineStep w v → Steps v u → Steps w u

-- What is due to series s on day d is spared: no answer of that day is turned away there, and no packet while that day
-- is kept.
abbrev pub Spares : (s d : ℕ) {w v : World} → LineStep w v → Type 0
Spares s d (calls e) = Unit
Spares s d rests = Unit
Spares s d (turns-answer i a q x) = a.series ≡ s → (dated_of a.what).date ≡ Some d → ⊥
Spares s d {w} (turns-receive i j m p q f o b x) = m.series ≡ s → (kept_of w.receiving.end s).date ≡ Some d → ⊥

abbrev pub SparesAll : (s d : ℕ) {w v : World} → Steps w v → Type 0
SparesAll s d none = Unit
SparesAll s d (then l ls) = Spares s d l × SparesAll s d ls

-- ─── Lists of events are such steps ───

pub run-steps : (w : World) (es : List Event) → Steps w (run w es)
run-steps w [] = none
run-steps w (e ∷ es) = then (calls e) (run-steps (step w e) es)

pub run-spares : (s d : ℕ) (w : World) (es : List Event) → SparesAll s d (run-steps w es)
unfolding run-steps
run-spares s d w [] = tt
run-spares s d w (e ∷ es) = (tt, run-spares s d (step w e) es)

-- ─── One list behind another ───

pub steps-along : {w v u : World} → Steps w v → Steps v u → Steps w u
steps-along none b = b
steps-along (then l a) b = then l (steps-along a b)
