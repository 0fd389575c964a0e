-- A bufferful from above is so many single calls of the box. Assumes nothing.
use Prim.Native.Nat.{ℕ}
use mathlib.Core.Path.{refl}
use mathlib.Core.List.{List}
use mathlib.Core.Option.{Option, none, some}
use lib.ListN.{take, drop}
use Rattle.ftd.specs.Chain.Laws.{packet_form}
use Rattle.flow.specs.declared.several.ReceivedSeveral.{ReceivedSeveral}
use Rattle.flow.specs.Answers.{Said, received_said}
use Rattle.flow.specs.Several.{receiving, received_stops}
use Rattle.flow.proofs.Bufferful.{received-fits}
use Rattle.flow.proofs.several.Received.{some-packet, packet-local}
use Rattle.flow.proofs.several.OneByOne.{StopFits, Fits, one_by_one}
use Rattle.relay.specs.Bufferful.{relaying, relay_one, BoxBufferful}
use Rattle.relay.proofs.several.Turns.{relayed-inside}

-- Both calls tell their answers alike.
same_stop : (s after : List ℕ) (a : Said) (o : Option ReceivedSeveral) → StopFits receiving s after a o
    → StopFits relaying s after a o
same_stop s after a none h = h
same_stop s after a (some b) h = h

packets-fit : Fits relaying
packets-fit =
    record {
      some-head = some-packet;
      local = packet-local;
      stop =
          λ e s l at n.
          let r = relay_one e (take n (drop at s)) l in
          same_stop s r.bytes (received_said (take n (drop at s)) r.bytes r.answer) (received_stops at r.answer)
          (received-fits s r.bytes at n r.answer (relayed-inside e.box (take n (drop at s)) e.log l));
      ended = λ s l. refl;
      cut = λ s l n. refl;
    }

pub box-bufferful : BoxBufferful
unfolding packet_form
box-bufferful = record { packets = one_by_one relaying packets-fit; head = refl }
