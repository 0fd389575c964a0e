-- `BoxLaws` holds. Assumes nothing.
use Prim.Native.Nat.{ℕ, ◌+◌, ◌*◌}
use native.Mathlib.Omega.{arith}
use mathlib.Core.Path.{◌≡◌, refl, sym, ap, ◌∙◌}
use mathlib.Core.List.{List, [], ◌∷◌, map}
use mathlib.Core.Bool.{Bool, true, false, not}
use borrow.Author.Tests.{ltb-true, ltb-false}
use lib.ListN.{length, length-map, length-set, set}
use lib.Dec.{ltb, eqb}
use Rattle.ftd.specs.Packet.{dated_of}
use Rattle.flow.specs.declared.sender.Day.{Day}
use Rattle.flow.specs.declared.sender.DaySeries.{DaySeries}
use Rattle.flow.specs.declared.sender.Place.{Place}
use Rattle.flow.specs.declared.sender.Sender.{Sender}
use Rattle.flow.specs.Types.{Opened}
use Rattle.flow.specs.Types.{LoggedIn}
use Rattle.flow.specs.declared.receiver.Receiver.{Receiver}
use Rattle.flow.specs.Types.{Confirmed}
use Rattle.flow.specs.declared.receiver.Received.{Received}
use Rattle.flow.specs.declared.receiver.Received.TheVariants.{Idle, Duplicate, Partial, Complete}
use Rattle.flow.specs.declared.receiver.Received.TheVariants.{Refused as NotTaken}
use Rattle.flow.specs.declared.several.ReceivedSeveral.{ReceivedSeveral}
use Rattle.flow.specs.declared.several.ReceivedSeveral.TheVariants.{End, Short}
use Rattle.flow.specs.declared.several.ReceivedSeveral.TheVariants.{Complete as StopComplete}
use Rattle.flow.specs.declared.several.ReceivedSeveral.TheVariants.{Refused as StopRefused}
use Rattle.flow.specs.Ends.{Left, Wrote, fresh_sender, index_of, day_series, place_of}
use Rattle.flow.specs.Serving.{login_of, send_of, send_packet_of}
use Rattle.flow.specs.Receiving.{confirm_login_of, receive_of}
use Rattle.flow.specs.World.{series_in}
use Rattle.flow.proofs.common.Rows.{by-when}
use Rattle.flow.proofs.ends.SenderLookups.{Eight as SenderEight}
use Rattle.flow.proofs.ends.SenderOpened.{opened-eight, fresh-eight}
use Rattle.flow.proofs.ends.ReceiverOpened.{fresh-eight as fresh-end-eight}
use Rattle.flow.proofs.calls.Serving.{OpenDone, open-refused, open-taken, open-cases, publish-cases}
use Rattle.relay.specs.declared.relay.Relay.{Relay}
use Rattle.relay.specs.State.{Box, seat_for, seats_for, box_for, place_start, flag_of, place_set, no_numbers}
use Rattle.relay.specs.Box.{fresh_box, server_of, serving, open_box_of, connect_box_of, AnswerWay, answer_by}
use Rattle.relay.specs.Box.{answer_way, answer_of, ReceiveWay, receive_by, receive_way, receive_box_of, login_seat_of}
use Rattle.relay.specs.Box.{server_at, send_seat_of, send_packet_seat_of}
use Rattle.relay.specs.Bufferful.{Logged, logged, relaying, receive_several_box_of}
use Rattle.relay.specs.Promises.{Whole, answered_numbers, login_numbers, packet_numbers, LogsInSeat, SendsSeat}
use Rattle.relay.specs.Promises.{SendsPacketSeat, seat_written}
use Rattle.relay.specs.Promises.{sent_numbers as seat_numbers}
use Rattle.relay.specs.Seats.{standing, opening, connect, answer, receive}
use Rattle.relay.specs.Calls.{Shaped}
use Rattle.relay.proofs.BoxCalls.{box-calls}
use Rattle.relay.proofs.CallsAs.{opening-seat}
use Rattle.relay.proofs.Ways.{AnswerDone, comes-late, not_taken, same-day, not_opened, opened, answer-done}
use Rattle.relay.proofs.Ways.{ReceiveDone, hands_none, not-published, published, receive-done}
use Rattle.relay.proofs.places.Written.{sixteen, no-seats}
use Rattle.relay.proofs.relay.AtSeats.{logs-in, sends-at, sends-packet-at, login-none, send-none, packet-none}
use Rattle.exports.specs.declared.boxes.FtdBox.{FtdBox}
use Rattle.exports.specs.Boxes.{day_series_for, day_for, relay_for, day_series_numbers, day_numbers, box_numbers}
use Rattle.exports.specs.Boxes.{box_confirmed_with, box_received_with, box_received_several_with, box_opened_numbers}
use Rattle.exports.specs.Boxes.{box_confirmed_numbers, box_received_numbers, box_received_several_numbers}
use Rattle.exports.specs.Laws.{BoxIs, BoxLaws}
use Rattle.exports.proofs.Laws.{date-back, receiver-back, receiver-eight, end-eight, several-keeps}
use Rattle.exports.proofs.Laws.{published-eight}
use Rattle.std.specs.Prelude.{Some, None, Ok, Err}
use Rattle.flow.specs.Types.{SendAnswer, PacketSent}

-- ─── A box as numbers, and back ───

series-back : (l : List DaySeries) → map day_series_for (map day_series_numbers l) ≡ l
series-back [] = refl
series-back (x ∷ l) = ap (λ (m : List DaySeries). x ∷ m) (series-back l)

day-back : (d : Day) → day_for (day_numbers d) ≡ d
unfolding day_for day_numbers
day-back d = rw (date-back d.date, series-back d.series) refl

box-back : (b : Box) (seats : List ℕ) → length b.receiver.kept.series ≡ 8
    → length b.receiver.live.series ≡ 8 → b.seats ≡ seats_for seats → box_for (relay_for (box_numbers b)) seats ≡ b
box-back b seats k l s = rw (receiver-back b.receiver k l, day-back b.day, ← s) refl

-- Each array of a box has its places.
record Eights (b : Box) : Type 0 where
  shaped : Shaped b
  day : length b.day.series ≡ 8

day-eight : (d : Day) → length d.series ≡ 8 → length (day_numbers d).series ≡ 8
unfolding day_numbers
day-eight d h = length-map d.series day_series_numbers ∙ h

said-day : (n : FtdBox) → length n.day.series ≡ 8 → length (day_for n.day).series ≡ 8
unfolding day_for
said-day n h = length-map n.day.series day_series_for ∙ h

box-is : (b : Box) (seats : List ℕ) → Eights b → b.seats ≡ seats_for seats → Whole seats
    → BoxIs (box_numbers b) seats b
box-is b seats z s w = (
  box-back b seats z.shaped.kept z.shaped.live s,
  receiver-eight b.receiver (record { kept = z.shaped.kept; live = z.shaped.live }),
  day-eight b.day z.day,
  w,
)

fresh-eights : Eights fresh_box
unfolding fresh_box
fresh-eights =
    record {
      shaped = record { kept = fresh-end-eight.kept; live = fresh-end-eight.live; seats = refl };
      day = fresh-eight.series;
    }

fresh-seats : fresh_box.seats ≡ seats_for no_numbers
unfolding fresh_box
fresh-seats = sym no-seats

-- ─── What a call leaves of the arrays and the seats ───

module _ (b : Box) (z : Eights b) where
  opens-eights : (ss rs : List ℕ) → Eights (open_box_of b ss rs).end
  opens-eights ss rs =
      let x = standing b [] [] in
      record {
        shaped = box-calls.shaped x (opening ss rs) z.shaped;
        day = ap (λ (d : Day). length d.series) (box-calls.day-stays x (opening ss rs) refl refl) ∙ z.day;
      }

  connects-eights : Eights (connect_box_of b)
  connects-eights =
      let x = standing b [] [] in
      record {
        shaped = box-calls.shaped x connect z.shaped;
        day = ap (λ (d : Day). length d.series) (box-calls.day-stays x connect refl refl) ∙ z.day;
      }

  opened-day : (d : ℕ) (ss rs log : List ℕ) (r : Left Sender Opened) → OpenDone (serving b) d ss rs log r
      → length r.end.day.series ≡ 8
  opened-day d ss rs log r (open-refused q) = z.day
  opened-day d ss rs log r (open-taken q h g k) = (opened-eight d ss rs q).series

  answer-day : (s : ℕ) (p log : List ℕ) (r : Left Receiver Confirmed) (w : AnswerWay) → AnswerDone b s p log w
      → length (answer_by b r w).end.day.series ≡ 8
  answer-day s p log r w (comes-late q) = z.day
  answer-day s p log r w (not_taken x q) = z.day
  answer-day s p log r w (same-day n d q f l u) = z.day
  answer-day s p log r w (not_opened n d q f u x o) = z.day
  answer-day s p log r w (opened n d q f u o) = opened-day d _ _ log _ (open-cases (serving b) d _ _ log)

  confirms-eights : (s : ℕ) (p log : List ℕ) → Eights (answer_of b s p log).end
  unfolding answer_of
  confirms-eights s p log =
      record {
        shaped = box-calls.shaped (standing b log []) (answer s p) z.shaped;
        day = answer-day s p log (confirm_login_of b.receiver s p) (answer_way b s p log) (answer-done b s p log);
      }

  below-eight : SenderEight (serving b)
  below-eight = record { series = z.day; places = fresh-eight.places }

  receive-day : (p log buffer : List ℕ) (r : Wrote Receiver Received) (w : ReceiveWay) → ReceiveDone b p log buffer w
      → length (receive_by b (series_in (dated_of p).packet) log buffer r w).end.day.series ≡ 8
  receive-day p log buffer r w (comes-late q f) = z.day
  receive-day p log buffer r w (hands_none q) = z.day
  receive-day p log buffer r w (not-published m ms q f x o) = z.day
  receive-day p log buffer r w (published m ms q f k o) =
      (published-eight (serving b) below-eight _ _ _ log _ (publish-cases (serving b) _ _ _ log)).series

  receives-eights : (p log buffer : List ℕ) → Eights (receive_box_of b p log buffer).end
  unfolding receive_box_of
  receives-eights p log buffer =
      record {
        shaped = box-calls.shaped (standing b log buffer) (receive p) z.shaped;
        day = receive-day p log buffer (receive_of b.receiver p buffer) (receive_way b p log buffer)
            (receive-done b p log buffer);
      }

open-seats : (b : Box) (ss rs : List ℕ) → (open_box_of b ss rs).end.seats ≡ b.seats
unfolding open_box_of
open-seats b ss rs =
    by-when (λ (r : Left Box Opened). r.end.seats ≡ b.seats) (not (eqb (length rs) (length ss))) (λ q. refl)
    λ q. refl

connect-seats : (b : Box) → (connect_box_of b).seats ≡ b.seats
unfolding connect_box_of
connect-seats b = refl

way-seats : (b : Box) (s : ℕ) (log buffer : List ℕ) (r : Wrote Receiver Received) (w : ReceiveWay)
    → (receive_by b s log buffer r w).end.seats ≡ b.seats
way-seats b s log buffer r ReceiveWay.late = refl
way-seats b s log buffer r (ReceiveWay.refuses x) = refl
way-seats b s log buffer r ReceiveWay.through = refl
way-seats b s log buffer r (ReceiveWay.publishes m q) = refl

receive-seats : (b : Box) (p log buffer : List ℕ) → (receive_box_of b p log buffer).end.seats ≡ b.seats
unfolding receive_box_of
receive-seats b p log buffer =
    way-seats b (series_in (dated_of p).packet) log buffer (receive_of b.receiver p buffer) (receive_way b p log buffer)

module _ (b : Box) (seats : List ℕ) (own : b.seats ≡ seats_for seats) where
  answer-seats : (s : ℕ) (p log : List ℕ) (r : Left Receiver Confirmed) (w : AnswerWay) → AnswerDone b s p log w
      → (answer_by b r w).end.seats ≡ seats_for (answered_numbers seats w)
  unfolding fresh_sender
  answer-seats s p log r w (comes-late q) = own
  answer-seats s p log r w (not_taken x q) = own
  answer-seats s p log r w (same-day n d q f l u) = own
  answer-seats s p log r w (not_opened n d q f u x o) = own
  answer-seats s p log r w (opened n d q f u o) = rw (opening-seat b d log o) (sym no-seats)

  confirm-seats : (s : ℕ) (p log : List ℕ)
      → (answer_of b s p log).end.seats ≡ seats_for (answered_numbers seats (answer_way b s p log))
  unfolding answer_of
  confirm-seats s p log =
      answer-seats s p log (confirm_login_of b.receiver s p) (answer_way b s p log) (answer-done b s p log)

answered-whole : (seats : List ℕ) → Whole seats → (w : AnswerWay) → Whole (answered_numbers seats w)
answered-whole seats h AnswerWay.late = h
answered-whole seats h (AnswerWay.refuses x) = h
answered-whole seats h AnswerWay.through = h
answered-whole seats h (AnswerWay.opens q) = refl

-- ─── Calls of a seat ───

set-whole : (ns : List ℕ) (at : ℕ) (p : Place) → Whole ns → Whole (place_set ns at p)
set-whole ns at p h =
    let l = set ns at (flag_of p.login) in
    let m = set l (at + 1) p.next in
    length-set m (at + 2) p.piece ∙ length-set l (at + 1) p.next ∙ length-set ns at (flag_of p.login) ∙ h

module _ (b : Relay) (ns : List ℕ) (w : Whole ns) (day : length b.day.series ≡ 8) (i s : ℕ) where
  seat-eight : SenderEight (server_of b.day (seat_for ns (24 * i)))
  seat-eight = record { series = day; places = refl }

  written-whole : (x : Box) → Whole (seat_written ns i s x)
  written-whole x =
      set-whole ns (place_start i (index_of s (day_series (server_at x i)))) (place_of (server_at x i) s) w

  login-whole : (x : Box) (a : LoggedIn) → Whole (login_numbers ns i s x a)
  login-whole x (Ok n) = written-whole x
  login-whole x (Err r) = w

  sent-whole : (x : Box) (a : SendAnswer) → Whole (seat_numbers ns i s x a)
  sent-whole x (Ok None) = w
  sent-whole x (Ok (Some found)) = written-whole x
  sent-whole x (Err r) = w

  packet-whole : (x : Box) (a : PacketSent) → Whole (packet_numbers ns i s x a)
  packet-whole x (Ok None) = w
  packet-whole x (Ok (Some found)) = written-whole x
  packet-whole x (Err r) = w

  module _ (p content out : List ℕ) where
    login-from : (a : LoggedIn) (later after : List ℕ) → LogsInSeat b ns i s p content out a later after →
        let m = login_seat_of (box_for b ns) i s p content out in
        box_for b (login_numbers ns i s m.end m.answer) ≡ m.end
    login-from a later after g =
        let m = login_seat_of (box_for b ns) i s p content out in
        sym (ap (box_for b) (g.2 ∙ ap (login_numbers ns i s m.end) g.1.1)) ∙ g.0 w

    login-box :
        let m = login_seat_of (box_for b ns) i s p content out in
        box_for b (login_numbers ns i s m.end m.answer) ≡ m.end
    login-box = go (ltb i 16) refl
      where
        go : (t : Bool) → ltb i 16 ≡ t →
            let m = login_seat_of (box_for b ns) i s p content out in
            box_for b (login_numbers ns i s m.end m.answer) ≡ m.end
        go true q =
            let e = login_of (server_of b.day (seat_for ns (24 * i))) s p content out in
            login-from _ _ _
            (logs-in b ns i s (ltb-true i 16 q) seat-eight p content out (record { end = e.end; answer = e.answer })
            e.bytes _ (refl, (refl, refl), refl) refl)
        go false q =
            let f = ltb-false i 16 q in
            login-from _ _ _ (login-none b ns i s (omega arith) p content out)

  module _ (log out : List ℕ) where
    send-from : (a : SendAnswer) (later after : List ℕ) → SendsSeat b ns i s log out a later after →
        let m = send_seat_of (box_for b ns) i s log out in
        box_for b (seat_numbers ns i s m.end m.answer) ≡ m.end
    send-from a later after g =
        let m = send_seat_of (box_for b ns) i s log out in
        sym (ap (box_for b) (g.2 ∙ ap (seat_numbers ns i s m.end) g.1.1)) ∙ g.0 w

    send-box :
        let m = send_seat_of (box_for b ns) i s log out in
        box_for b (seat_numbers ns i s m.end m.answer) ≡ m.end
    send-box = go (ltb i 16) refl
      where
        go : (t : Bool) → ltb i 16 ≡ t →
            let m = send_seat_of (box_for b ns) i s log out in
            box_for b (seat_numbers ns i s m.end m.answer) ≡ m.end
        go true q =
            let e = send_of (server_of b.day (seat_for ns (24 * i))) s log out in
            send-from _ _ _
            (sends-at b ns i s (ltb-true i 16 q) seat-eight log out (record { end = e.end; answer = e.answer })
            e.bytes _ (refl, (refl, refl), refl) refl)
        go false q =
            let f = ltb-false i 16 q in
            send-from _ _ _ (send-none b ns i s (omega arith) log out)

    packet-from : (a : PacketSent) (later after : List ℕ) → SendsPacketSeat b ns i s log out a later after →
        let m = send_packet_seat_of (box_for b ns) i s log out in
        box_for b (packet_numbers ns i s m.end m.answer) ≡ m.end
    packet-from a later after g =
        let m = send_packet_seat_of (box_for b ns) i s log out in
        sym (ap (box_for b) (g.2 ∙ ap (packet_numbers ns i s m.end) g.1.1)) ∙ g.0 w

    packet-box :
        let m = send_packet_seat_of (box_for b ns) i s log out in
        box_for b (packet_numbers ns i s m.end m.answer) ≡ m.end
    packet-box = go (ltb i 16) refl
      where
        go : (t : Bool) → ltb i 16 ≡ t →
            let m = send_packet_seat_of (box_for b ns) i s log out in
            box_for b (packet_numbers ns i s m.end m.answer) ≡ m.end
        go true q =
            let e = send_packet_of (server_of b.day (seat_for ns (24 * i))) s log out in
            packet-from _ _ _
            (sends-packet-at b ns i s (ltb-true i 16 q) seat-eight log out (record { end = e.end; answer = e.answer })
            e.bytes _ (refl, (refl, refl), refl) refl)
        go false q =
            let f = ltb-false i 16 q in
            packet-from _ _ _ (packet-none b ns i s (omega arith) log out)

-- ─── Call by call ───

-- An answer stands beside the box.
confirmed-state : (n : FtdBox) (a : Confirmed) → (box_confirmed_with n a).state ≡ n
confirmed-state n (Ok k) = refl
confirmed-state n (Err r) = refl

received-state : (n : FtdBox) (a : Received) → (box_received_with n a).state ≡ n
received-state n Idle = refl
received-state n (Duplicate k) = refl
received-state n (Partial k) = refl
received-state n (Complete last tid origin content) = refl
received-state n (NotTaken r) = refl

several-state : (n : FtdBox) (taken : ℕ) (a : ReceivedSeveral) → (box_received_several_with n taken a).state ≡ n
several-state n taken End = refl
several-state n taken (Short k) = refl
several-state n taken (StopComplete last tid origin content) = refl
several-state n taken (StopRefused r) = refl

-- Numbers that are a box: what a call makes of the box that they say, it makes of that box.
module _ (n : FtdBox) (seats : List ℕ) (b : Box) (h : BoxIs n seats b) where
  said-eights : Eights (box_for (relay_for n) seats)
  said-eights =
      let e = end-eight n.receiver h.1 in
      record {
        shaped = record { kept = e.kept; live = e.live; seats = sixteen seats };
        day = said-day n h.2;
      }

  eights : Eights b
  eights = rw h.0 at said-eights

  own : b.seats ≡ seats_for seats
  own = ap (λ (x : Box). x.seats) (sym h.0)

  opens : (ss rs : List ℕ)
      → BoxIs (box_opened_numbers (open_box_of (box_for (relay_for n) seats) ss rs)).state seats (open_box_of b ss rs).end
  opens ss rs =
      rw h.0 (box-is (open_box_of b ss rs).end seats (opens-eights b eights ss rs) (open-seats b ss rs ∙ own) h.3)

  connects : BoxIs (box_numbers (connect_box_of (box_for (relay_for n) seats))) seats (connect_box_of b)
  connects = rw h.0 (box-is (connect_box_of b) seats (connects-eights b eights) (connect-seats b ∙ own) h.3)

  confirms : (s : ℕ) (p log : List ℕ)
      → BoxIs (box_confirmed_numbers (answer_of (box_for (relay_for n) seats) s p log)).state
      (answered_numbers seats (answer_way (box_for (relay_for n) seats) s p log)) (answer_of b s p log).end
  confirms s p log =
      let r = answer_of b s p log in
      let w = answer_way b s p log in
      rw (h.0, confirmed-state (box_numbers r.end) r.answer)
      (box-is r.end (answered_numbers seats w) (confirms-eights b eights s p log) (confirm-seats b seats own s p log)
      (answered-whole seats h.3 w))

  receives : (p log buffer : List ℕ)
      → BoxIs (box_received_numbers (receive_box_of (box_for (relay_for n) seats) p log buffer)).state seats
      (receive_box_of b p log buffer).end
  receives p log buffer =
      let r = receive_box_of b p log buffer in
      rw (h.0, received-state (box_numbers r.end) r.answer)
      (box-is r.end seats (receives-eights b eights p log buffer) (receive-seats b p log buffer ∙ own) h.3)

  abbrev Kept : Logged → Type 0
  Kept x = Eights x.box × (x.box.seats ≡ seats_for seats)

  one_kept : (x : Logged) (p buffer : List ℕ) → Kept x → Kept (relaying.call x p buffer).end
  one_kept x p buffer k = (
    receives-eights x.box k.0 p x.log buffer,
    receive-seats x.box p x.log buffer ∙ k.1,
  )

  receives-several : (ps log buffer : List ℕ)
      → BoxIs (box_received_several_numbers (receive_several_box_of (box_for (relay_for n) seats) ps log buffer)).state seats
      (receive_several_box_of b ps log buffer).end.box
  receives-several ps log buffer =
      let r = receive_several_box_of b ps log buffer in
      let k = several-keeps relaying Kept one_kept (logged b log) ps buffer (eights, own) in
      rw (h.0, several-state (box_numbers r.end.box) r.taken r.answer)
      (box-is r.end.box seats k.0 k.1 h.3)

  seat-logs-in : (i s : ℕ) (p content out : List ℕ) →
      let m = login_seat_of (box_for (relay_for n) seats) i s p content out in
      BoxIs n (login_numbers seats i s m.end m.answer) (login_seat_of b i s p content out).end
  seat-logs-in i s p content out =
      let m = login_seat_of (box_for (relay_for n) seats) i s p content out in (
        login-box (relay_for n) seats h.3 (said-day n h.2) i s p content out
            ∙ ap (λ (x : Box). (login_seat_of x i s p content out).end) h.0,
        h.1,
        h.2,
        login-whole (relay_for n) seats h.3 (said-day n h.2) i s m.end m.answer,
      )

  seat-sends : (i s : ℕ) (log out : List ℕ) →
      let m = send_seat_of (box_for (relay_for n) seats) i s log out in
      BoxIs n (seat_numbers seats i s m.end m.answer) (send_seat_of b i s log out).end
  seat-sends i s log out =
      let m = send_seat_of (box_for (relay_for n) seats) i s log out in (
        send-box (relay_for n) seats h.3 (said-day n h.2) i s log out
            ∙ ap (λ (x : Box). (send_seat_of x i s log out).end) h.0,
        h.1,
        h.2,
        sent-whole (relay_for n) seats h.3 (said-day n h.2) i s m.end m.answer,
      )

  seat-sends-packet : (i s : ℕ) (log out : List ℕ) →
      let m = send_packet_seat_of (box_for (relay_for n) seats) i s log out in
      BoxIs n (packet_numbers seats i s m.end m.answer) (send_packet_seat_of b i s log out).end
  seat-sends-packet i s log out =
      let m = send_packet_seat_of (box_for (relay_for n) seats) i s log out in (
        packet-box (relay_for n) seats h.3 (said-day n h.2) i s log out
            ∙ ap (λ (x : Box). (send_packet_seat_of x i s log out).end) h.0,
        h.1,
        h.2,
        packet-whole (relay_for n) seats h.3 (said-day n h.2) i s m.end m.answer,
      )

pub box_laws : BoxLaws
box_laws =
    record {
      box-back = box-back;
      fresh = box-is fresh_box no_numbers fresh-eights fresh-seats refl;
      opens = opens;
      connects = connects;
      confirms = confirms;
      receives = receives;
      receives-several = receives-several;
      logs-in = seat-logs-in;
      sends = seat-sends;
      sends-packet = seat-sends-packet;
    }
