-- Demand 3 with named places to come back to: both halves, for every list of events. Assumes nothing.
use Prim.Native.Nat.{ℕ, ◌<◌}
use mathlib.Core.Path.{◌≡◌, refl}
use mathlib.Core.List.{List, [], ◌∷◌, map}
use mathlib.Core.Option.{some}
use lib.ListN.{length, get_elem?}
use Rattle.ftd.proofs.chain.Laws.{chain_laws}
use Rattle.flow.specs.World.{InSeries, Event, whole, transmission, start, run}
use Rattle.flow.specs.Rewind.{RewindEvent, call, RewindWorld, rewind_start, rewind_step, rewind_run, RewindAgreement}
use Rattle.flow.proofs.packets.Genuine.{OnLine}
use Rattle.flow.proofs.common.Lists.{every-at}
use Rattle.flow.proofs.bench.Rows.{checkpoint-rows}
use Rattle.flow.proofs.rewind.Kept.{return-clears, wrong-kept, wrong-returned, keep-fifth, return-unknown}
use Rattle.flow.proofs.rewind.Kept.{return-known}
use Rattle.flow.proofs.rewind.First.{safe-rewind, rewind-agreed}
use Rattle.flow.proofs.rewind.Second.{timely-fresh, timely-along, brings, rewind-complete}

has-packets : (log buffer : List ℕ) (es : List RewindEvent) (i : ℕ) (m : InSeries (List (List ℕ))) →
    let v = (rewind_run (rewind_start log buffer) es).now.serving in
    get_elem? v.messages i ≡ some m
    → (0 < length m.what)
    × ((place : ℕ) × (get_elem? v.transmissions place ≡ some (transmission m.series m.what whole)))
has-packets log buffer es i m q =
    let v = (rewind_run (rewind_start log buffer) es).now.serving in
    let h = (timely-along (rewind_start log buffer) (timely-fresh log buffer) es).timely.source in
    let g = h.genuine i m q in
    (rw g.packets (chain_laws.as_many _ _).1, every-at (OnLine v.transmissions) v.messages i m h.on_line q)

plain-run : (w : RewindWorld) (es : List Event) → (rewind_run w (map call es)).now ≡ run w.now es
plain-run w [] = refl
plain-run w (e ∷ es) = plain-run (rewind_step w (call e)) es

plain : (log buffer : List ℕ) (es : List Event)
    → (rewind_run (rewind_start log buffer) (map call es)).now ≡ run (start log buffer) es
unfolding rewind_start
plain log buffer es = plain-run (rewind_start log buffer) es

pub rewind-agreement : RewindAgreement
rewind-agreement =
    record {
      safe = rewind-agreed;
      dated = λ log buffer es. (safe-rewind log buffer es).safe.dated;
      restores = λ log buffer es name.
          brings (rewind_run (rewind_start log buffer) es)
          (timely-along (rewind_start log buffer) (timely-fresh log buffer) es) name;
      clears = return-clears;
      wrong-kept = wrong-kept;
      wrong-returned = wrong-returned;
      fifth = keep-fifth;
      unknown = return-unknown;
      known = return-known;
      complete = rewind-complete;
      sent = has-packets;
      rows = checkpoint-rows;
      plain = plain;
    }
