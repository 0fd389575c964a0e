-- Demand 3, whole: both halves, for every list of events. Assumes nothing.
use Prim.Native.Nat.{ℕ, ◌<◌}
use mathlib.Core.Path.{◌≡◌}
use mathlib.Core.List.{List}
use mathlib.Core.Option.{some}
use lib.ListN.{length, get_elem?}
use Rattle.ftd.proofs.chain.Laws.{chain_laws}
use Rattle.flow.specs.World.{InSeries, Event, whole, transmission, start, run}
use Rattle.flow.proofs.packets.Genuine.{OnLine}
use Rattle.flow.proofs.common.Lists.{every-at}
use Rattle.flow.specs.Agreement.{Agreement}
use Rattle.flow.proofs.first.Half.{safe-agreed}
use Rattle.flow.proofs.second.Half.{safe-run, complete}
use Rattle.flow.proofs.source.Sources.{run-source}

has-packets : (log buffer : List ℕ) (es : List Event) (i : ℕ) (m : InSeries (List (List ℕ))) →
    let v = (run (start log buffer) es).serving in
    get_elem? v.messages i ≡ some m
    → (0 < length m.what)
    × ((place : ℕ) × (get_elem? v.transmissions place ≡ some (transmission m.series m.what whole)))
has-packets log buffer es i m q =
    let v = (run (start log buffer) es).serving in
    let h = run-source log buffer es in
    let g = h.genuine i m q in
    (rw g.packets (chain_laws.as_many _ _).1, every-at (OnLine v.transmissions) v.messages i m h.on_line q)

pub agreement : Agreement
agreement =
    record {
      safe = λ log buffer es s d. safe-agreed (run (start log buffer) es) s d (safe-run log buffer es);
      dated = λ log buffer es. (safe-run log buffer es).dated;
      sent = has-packets;
      complete = complete;
    }
