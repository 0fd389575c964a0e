-- Request No. 3, whole. Assumes nothing.
use Prim.Native.Nat.{ℕ, ◌<◌}
use native.Mathlib.Omega.{arith}
use mathlib.Core.Path.{◌≡◌, sym, ap, ◌∙◌}
use mathlib.Core.List.{List}
use mathlib.Core.Bool.{false}
use borrow.Author.Tests.{lt-ltb}
use Rattle.ftd.specs.declared.refusal.Refusal.TheVariants.{DamagedLog}
use Rattle.ftd.proofs.chain.Laws.{chain_laws}
use Rattle.flow.specs.declared.sender.Sender.{Sender}
use Rattle.flow.specs.Ends.{Wrote}
use Rattle.flow.specs.Serving.{send_of, send_packet_of}
use Rattle.flow.specs.World.{SenderSide}
use Rattle.flow.specs.Agreement.{of}
use Rattle.flow.proofs.common.Extends.{none-some}
use Rattle.flow.proofs.common.Lists.{every-at}
use Rattle.flow.proofs.packets.Genuine.{OnLine}
use Rattle.flow.proofs.calls.Serving.{SendDone, send-unknown, send-outside, send-drained, send-damaged, send-small}
use Rattle.flow.proofs.calls.Serving.{send-taken, send-cases, packet-cases}
use Rattle.flow.proofs.source.Entries.{next-entry}
use Rattle.flow.proofs.source.Sources.{Source}
use Rattle.flow.proofs.first.Half.{safe-agreed}
use Rattle.flow.proofs.PacketByPacket.{packet-damaged-never}
use Rattle.relay.specs.Box.{no_such_seat, server_at, send_seat_of, send_packet_seat_of}
use Rattle.relay.specs.World.{Lent, Node, SeatLine, BoxEvent, box_of, serving_at, above, below, start_box}
use Rattle.relay.specs.Agreement.{ran, EachSent, BoxAgreement}
use Rattle.relay.proofs.Seats.{independence}
use Rattle.relay.proofs.Openings.{openings}
use Rattle.relay.proofs.Halves.{Good, good_start, good-run, above-complete, below-complete}
use Rattle.relay.proofs.Enough.{log-enough, admitted}
use Rattle.relay.proofs.Numbers.{same_number, counts, day-below, seat-start, seat-whole}
use Rattle.std.specs.Prelude.{Err}
use Rattle.flow.specs.Types.{SendAnswer}

good : (l : Lent) (es : List BoxEvent) → Good (ran l es)
good l es = good-run (start_box l) (good_start l) es

each-sent : (v : SenderSide) → Source v → EachSent v
each-sent v z k m q =
    let x = z.genuine k m q in
    (rw x.packets (chain_laws.as_many _ _).1, every-at (OnLine v.transmissions) v.messages k m z.on_line q)

-- ─── The log is sound ───

module _ (v : SenderSide) (h : Source v) (s : ℕ) (out : List ℕ) where
  send-damaged-never : (r : Wrote Sender SendAnswer) → SendDone v.end s v.log out r → r.answer ≡ Err DamagedLog → ⊥
  send-damaged-never r (send-unknown a) q = let z : ◌≡◌ {A = ℕ} 0 1 = cc in omega arith
  send-damaged-never r (send-outside a b) q = let z : ◌≡◌ {A = ℕ} 0 1 = cc in omega arith
  send-damaged-never r (send-drained a b) q = let z : ◌≡◌ {A = ℕ} 0 1 = cc in omega arith
  send-damaged-never r (send-damaged a b c) q =
      let n = next-entry v.end v.log v.day v.published h.served s a b in
      none-some _ (sym c ∙ n.entry)
  send-damaged-never r (send-small x a b c d) q = let z : ◌≡◌ {A = ℕ} 0 1 = cc in omega arith
  send-damaged-never r (send-taken x a b c d) q = let z : ◌≡◌ {A = ℕ} 0 1 = cc in omega arith

module _ (n : Node) (i : ℕ) (x : SeatLine) (few : i < 16) (h : Source (serving_at n i x)) (s : ℕ) (out : List ℕ) where
  there : no_such_seat i ≡ false
  there = rw (lt-ltb i 16 few)

  sends : (send_seat_of (box_of n) i s n.log out).answer ≡ Err DamagedLog → ⊥
  unfolding send_seat_of
  sends =
      rw there
      (send-damaged-never (serving_at n i x) h s out (send_of (server_at (box_of n) i) s n.log out)
      (send-cases (server_at (box_of n) i) s n.log out))

  sends-packet : (send_packet_seat_of (box_of n) i s n.log out).answer ≡ Err DamagedLog → ⊥
  unfolding send_packet_seat_of
  sends-packet =
      rw there
      (packet-damaged-never (serving_at n i x) h s out (send_packet_of (server_at (box_of n) i) s n.log out)
      (packet-cases (server_at (box_of n) i) s n.log out))

-- ─── All of it ───

pub box-agreement : BoxAgreement
box-agreement =
    record {
      above-safe = λ l es s d. safe-agreed (above (ran l es)) s d (good l es).above-safe;
      below-safe = λ l es i s d f. safe-agreed (below (ran l es) i) s d ((good l es).below-safe i f);
      above-dated = λ l es. (good l es).above-safe.dated;
      below-dated = λ l es i f. ((good l es).below-safe i f).dated;
      above-sent = λ l es. each-sent (above (ran l es)).serving (good l es).above-timely.source;
      below-sent = λ l es i f. each-sent (below (ran l es) i).serving ((good l es).below-timely i f).source;
      joined = λ l es s d. ap (of s d) (good l es).joint.1;
      numbered = λ l es. same_number (ran l es) (good l es);
      counts = λ l es s d. counts (ran l es) (good l es) s d;
      day-below = λ l es. day-below (ran l es) (good l es);
      openings = openings;
      admitted = admitted;
      undamaged = λ l es i s out f.
          let w = ran l es in
          let h = ((good l es).below-timely i f).source in
          (sends w.node i (w.lines i) f h s out, sends-packet w.node i (w.lines i) f h s out);
      above-complete = λ l es fs e s d a out. above-complete (start_box l) (good_start l) es fs e s d a out;
      below-complete = λ l es fs e i s d a out f. below-complete (start_box l) (good_start l) es fs e s d a out i f;
      log-enough = log-enough;
      start_of = λ l es i s d f. seat-start (ran l es) (good l es) i f s d;
      whole = λ l es i s d f. seat-whole (ran l es) (good l es) i f s d;
      independent = independence;
    }
