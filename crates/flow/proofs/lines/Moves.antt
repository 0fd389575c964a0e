-- What a step of a line does to the serving side: a move, as every call's. Assumes nothing.
use Prim.Native.Nat.{◌≤◌}
use native.Mathlib.Omega.{arith}
use Rattle.flow.specs.World.{SenderSide, World}
use Rattle.flow.proofs.source.Moves.{Move, stays, step-moves}
use Rattle.flow.proofs.source.Days.{openings-grow}
use Rattle.flow.proofs.lines.Steps.{LineStep, calls, rests, turns-answer, turns-receive, Steps, none, then}

pub line-moves : {w v : World} → LineStep w v → Move w.serving v.serving
line-moves {w} (calls e) = step-moves w e
line-moves rests = stays
line-moves (turns-answer i a q x) = stays
line-moves (turns-receive i j m p q f o b x) = stays

-- What every move keeps, every list of steps keeps.
pub steps-keep : (P : SenderSide → Type 0) → ((v u : SenderSide) → Move v u → P v → P u) → {w v : World} → Steps w v
    → P w.serving → P v.serving
steps-keep P keep none h = h
steps-keep P keep {w} (then {v = v} l ls) h =
    steps-keep P keep ls (keep w.serving v.serving (line-moves l) h)

pub openings-steps : {w v : World} → Steps w v → w.serving.openings ≤ v.serving.openings
openings-steps none = omega arith
openings-steps {w} (then {v = v} l ls) =
    let a = openings-grow w.serving v.serving (line-moves l) in let b = openings-steps ls in omega arith
