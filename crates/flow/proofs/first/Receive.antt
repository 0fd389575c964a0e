-- Receive of any single packet of any transmission keeps what holds of the receiving end's side. Assumes nothing.
use Prim.Native.Nat.{ℕ, suc}
use mathlib.Core.Path.{◌≡◌, refl, sym, ◌∙◌}
use mathlib.Core.List.{List, [], ◌∷◌, ◌++◌, map}
use mathlib.Core.Bool.{Bool, true, false}
use mathlib.Core.Option.{some}
use borrow.Author.Tests.{eqb-true, eqb-false}
use lib.ListN.{get_elem?}
use lib.Dec.{eqb}
use Rattle.ftd.specs.Packet.{dated_of}
use Rattle.ftd.specs.Types.{TradeDate}
use Rattle.flow.specs.declared.receiver.Receiver.{Receiver}
use Rattle.flow.specs.declared.receiver.Received.{Received}
use Rattle.flow.specs.Ends.{Wrote, day_of}
use Rattle.flow.specs.Answers.{Message, received_said, message_in, report_in}
use Rattle.flow.specs.Receiving.{receive_of}
use Rattle.flow.specs.World.{borne, Dated, dated, latest_of, series_in, Transmission}
use Rattle.flow.specs.World.{ReceiverSide, after_receive}
use Rattle.flow.proofs.steps.Moves.{Moves}
use Rattle.flow.proofs.pieces.Outcomes.{Delivered, keeps, reports, hands}
use Rattle.flow.proofs.right.End.{EndRight, receive-delivers, receive-right}
use Rattle.flow.proofs.packets.Genuine.{Begun}
use Rattle.flow.proofs.pieces.Takes.{PacketAt, take-series, take-date}
use Rattle.flow.proofs.first.Safe.{Safe}
use Rattle.flow.proofs.common.Extends.{place_kept}
use Rattle.flow.proofs.steps.Turns.{receive-turn, turn-eight}
use Rattle.flow.specs.Agreement.{EachDated}
use Rattle.flow.proofs.common.Histories.{each_append, each_at}
use Rattle.std.specs.Prelude.{Some, None}

-- A packet moves no day.
same-days : (e after : Receiver) (s : ℕ) (date : TradeDate) (last : ℕ) → Moves e after s date last → date ≡ day_of e s
    → (t : ℕ) → day_of after t ≡ day_of e t
same-days e after s date last m q t = go (eqb t s) refl
  where
    go : (b : Bool) → eqb t s ≡ b → day_of after t ≡ day_of e t
    go true z = let y : t ≡ s = eqb-true t s z in rw y (m.date ∙ q)
    go false z = (m.other t (eqb-false t s z)).0

delivered-day : (e : Receiver) (s d k : ℕ) (x : Message) (after : Receiver) (ms : List Message) (ks : List ℕ)
    → Delivered e s d k x after ms ks → (t : ℕ) → day_of after t ≡ day_of e t
delivered-day e s d k x after ms ks (keeps m) = same-days e after s _ _ m refl
delivered-day e s d k x after ms ks (reports m q l) = same-days e after s _ _ m refl
delivered-day e s d k x after ms ks (hands m q l w) = same-days e after s _ _ m (sym q)

-- What it reports is of the kept day, which is the packet's.
delivered-dated : (e : Receiver) (s d k : ℕ) (x : Message) (after : Receiver) (ms : List Message) (ks : List ℕ)
    → Delivered e s d k x after ms ks → EachDated (map (dated s (day_of e s)) ks)
delivered-dated e s d k x after ms ks (keeps m) = tt
delivered-dated e s d k x after ms ks (reports {n = n} m q l) = each_at s d (day_of e s) (n ∷ []) q
delivered-dated e s d k x after ms ks (hands m q l w) = each_at s d (day_of e s) (k ∷ []) q

module _ (P : List (Dated Message)) (v : ReceiverSide) (h : Safe P v) where
  module _ (i j : ℕ) (m : Transmission) (p : List ℕ)
      (g : Begun P m.series m.packets m.stands)
      (here : get_elem? m.packets j ≡ some p)
    where
      abbrev e : Receiver
      e = v.end

      abbrev r : Wrote Receiver Received
      r = receive_of v.end p v.buffer

      abbrev s : ℕ
      s = m.series

      found : PacketAt s g.what.tid (suc g.place) g.day g.what.content j p
      found = record { good = g.good; here = place_kept m.packets _ g.packets j p here }

      delivered : Delivered e s g.day (suc g.place) g.what r.end
          (message_in (received_said p r.bytes r.answer)) (report_in (received_said p r.bytes r.answer))
      delivered =
          receive-delivers P v.handed v.reports e v.buffer h.right h.eight s g.day g.place g.what j p
          g.placed found

      received-right : EndRight P
          (v.handed ++ map
          (dated (series_in (dated_of p).packet)
          (borne (dated_of p).date (latest_of (series_in (dated_of p).packet) None v.days)))
          (message_in (received_said p r.bytes r.answer)))
          (v.reports ++ map
          (dated (series_in (dated_of p).packet) (latest_of (series_in (dated_of p).packet) None v.days))
          (report_in (received_said p r.bytes r.answer))) r.end r.bytes
      received-right =
          rw (take-series found, take-date found, ← (h.days s))
          (receive-right P v.handed v.reports e v.buffer h.right h.eight s g.day g.place g.what
          j p g.placed found)

      received-dated : EachDated
          (v.handed ++ map
          (dated (series_in (dated_of p).packet)
          (borne (dated_of p).date (latest_of (series_in (dated_of p).packet) None v.days)))
          (message_in (received_said p r.bytes r.answer)))
          × EachDated
          (v.reports ++ map
          (dated (series_in (dated_of p).packet) (latest_of (series_in (dated_of p).packet) None v.days))
          (report_in (received_said p r.bytes r.answer)))
      received-dated =
          rw (take-series found, take-date found, ← (h.days s)) (
            each_append v.handed _ h.dated.0
                (each_at s g.day (Some g.day) (message_in (received_said p r.bytes r.answer)) refl),
            each_append v.reports _ h.dated.1
                (delivered-dated e s g.day (suc g.place) g.what r.end _ _ delivered),
          )

      pub safe-receive : Safe P (after_receive v m i j p r)
      safe-receive =
          record {
            eight = turn-eight None false e h.eight r.end _ _ (receive-turn None false e p v.buffer);
            days = λ t. delivered-day e s g.day (suc g.place) g.what r.end _ _ delivered t ∙ h.days t;
            right = received-right;
            dated = received-dated;
          }
