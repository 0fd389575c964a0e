-- The box's calls of a seat: what each leaves of its place. Assumes nothing.
use Prim.Native.Nat.{ℕ, ◌<◌, ◌≤◌, ◌*◌, ◌^◌}
use native.Mathlib.Omega.{arith}
use mathlib.Core.Path.{◌≡◌, refl, sym, ap, ◌∙◌}
use mathlib.Core.List.{List}
use mathlib.Core.Bool.{Bool, true, false, cond}
use lib.ListN.{length, get_or, set, replicate}
use lib.Seq.{set-get_or, get_or-set_same}
use lib.Dec.{ltb}
use borrow.Author.Tests.{lt-ltb, le-ltb}
use Rattle.flow.specs.Types.{SeriesPlace}
use Rattle.flow.specs.declared.sender.Place.{Place}
use Rattle.flow.specs.declared.sender.Seat.{Seat}
use Rattle.flow.specs.declared.sender.Sender.{Sender}
use Rattle.flow.specs.Types.{LoggedIn}
use Rattle.flow.specs.declared.sender.LoginStep.{LoginStep}
use Rattle.flow.specs.declared.sender.SendStep.{SendStep}
use Rattle.flow.specs.declared.sender.SendPacketStep.{SendPacketStep}
use Rattle.ftd.specs.declared.refusal.Refusal.TheVariants.{NoSeat}
use Rattle.flow.specs.Ends.{Wrote, no_place, fresh_sender, is_served, day_series, index_of, with_place}
use Rattle.flow.specs.Promises.{LogsIn, Sends, SendsPacket}
use Rattle.flow.specs.Serving.{login_of, send_of, send_packet_of, after_packet, last_packet}
use Rattle.flow.proofs.ends.SenderLookups.{Eight, served-index, served-next, place-next}
use Rattle.flow.proofs.calls.Serving.{LoginDone, login-refused, login-taken, login-cases, SendDone, send-unknown}
use Rattle.flow.proofs.calls.Serving.{send-outside, send-drained, send-damaged, send-small, send-taken, send-cases}
use Rattle.flow.proofs.calls.Serving.{PacketDone, packet-unknown, packet-outside, packet-drained, packet-damaged}
use Rattle.flow.proofs.calls.Serving.{packet-missing, packet-small, packet-taken, packet-cases}
use Rattle.flow.specs.Helpers.{Finds}
use mir.Val.{Fits}
use mir.Syntax.{w64}
use borrow.Author.Rules.{scaled_Fits}
use Rattle.flow.proofs.sender.Lookups.{place_at, found_inside}
use Rattle.relay.specs.declared.relay.Relay.{Relay}
use Rattle.relay.specs.State.{Box, box_for, place_written, seat_for, seats_for}
use Rattle.relay.specs.Box.{no_seat, server_of, server_at, with_seat, login_seat_of, send_seat_of, send_packet_seat_of}
use Rattle.relay.specs.Promises.{Whole, seat_written, login_numbers, sent_numbers, packet_numbers, LogsInSeat, SendsSeat}
use Rattle.relay.specs.Promises.{SendsPacketSeat}
use Rattle.relay.proofs.places.Written.{seat-read, sixteen, seat-written}
use Rattle.relay.specs.Helpers.{kept_at}
use Rattle.std.specs.Prelude.{Some, None, Ok, Err, is_ok}
use Rattle.flow.specs.Types.{SendAnswer, PacketSent}

pub no-seat-is : record { places = replicate 8 no_place } ≡ no_seat
unfolding fresh_sender
no-seat-is = refl

pub keep-none : (ns : List ℕ) (i s : ℕ) (e : Sender) (f : SeriesPlace) → Finds e s f → f ≡ None → ns ≡ kept_at ns i s e
keep-none ns i s e f h q =
    let z : is_served e s ≡ false = rw q at h in
    rw z refl

pub keep_at : (ns : List ℕ) (i s : ℕ) (e : Sender) (f : SeriesPlace) (j : ℕ) → Finds e s f → f ≡ Some j
    → place_written ns i j (get_or e.seat.places j no_place) ≡ kept_at ns i s e
keep_at ns i s e f j h q =
    let z : Finds e s (Some j) = rw q at h in
    rw (z.0, place_at e s j z.1, ← z.1) refl

-- The place scaled by an element's size.
pub served-scaled : (e : Sender) (s : ℕ) (f : SeriesPlace) (i size : ℕ) → Finds e s f → f ≡ Some i
    → 8 * size < 2 ^ 63 → Fits w64 (i * size)
served-scaled e s f i size g u q = scaled_Fits i 8 size (found_inside e s f i g u) q

-- ─── What a seat's call leaves of the serving end: all of it, or, where it wrote, the series' place stepped on ───

pub data SeatStep (e : Sender) (s : ℕ) : Sender → Bool → Type 0 where
  rests : SeatStep e s e false
  steps : (next piece : ℕ) → is_served e s ≡ true → SeatStep e s (with_place e s next piece) true

abbrev pub sent_wrote : SendAnswer → Bool
sent_wrote (Ok None) = false
sent_wrote (Ok (Some found)) = true
sent_wrote (Err x) = false

abbrev pub packet_wrote : PacketSent → Bool
packet_wrote (Ok None) = false
packet_wrote (Ok (Some found)) = true
packet_wrote (Err x) = false

module _ (e : Sender) (s : ℕ) where
  login-step : (p content out : List ℕ) →
      let r = login_of e s p content out in
      SeatStep e s r.end (is_ok r.answer)
  login-step p content out = go (login_of e s p content out) (login-cases e s p content out)
    where
      go : (r : Wrote Sender LoggedIn) → LoginDone e s p content out r → SeatStep e s r.end (is_ok r.answer)
      go r (login-refused x) = rests
      go r (login-taken h x c a b g t) = steps _ _ t.served

  send-step : (log out : List ℕ) →
      let r = send_of e s log out in
      SeatStep e s r.end (sent_wrote r.answer)
  send-step log out = go (send_of e s log out) (send-cases e s log out)
    where
      go : (r : Wrote Sender SendAnswer) → SendDone e s log out r → SeatStep e s r.end (sent_wrote r.answer)
      go r (send-unknown a) = rests
      go r (send-outside a b) = rests
      go r (send-drained a b) = rests
      go r (send-damaged a b c) = rests
      go r (send-small x a b c d) = rests
      go r (send-taken x a b c d) = steps _ _ a.served

  packet-next : (last : Bool) → is_served e s ≡ true → SeatStep e s (after_packet e s last) true
  unfolding after_packet
  packet-next true h = steps _ _ h
  packet-next false h = steps _ _ h

  packet-step : (log out : List ℕ) →
      let r = send_packet_of e s log out in
      SeatStep e s r.end (packet_wrote r.answer)
  packet-step log out = go (send_packet_of e s log out) (packet-cases e s log out)
    where
      go : (r : Wrote Sender PacketSent) → PacketDone e s log out r → SeatStep e s r.end (packet_wrote r.answer)
      go r (packet-unknown a) = rests
      go r (packet-outside a b) = rests
      go r (packet-drained a b) = rests
      go r (packet-damaged a b c) = rests
      go r (packet-missing x a b c d) = rests
      go r (packet-small x a b c d f) = rests
      go r (packet-taken x a b c d f) = packet-next (last_packet e s x) a.served

-- ─── The place stepped on ───

module _ (e : Sender) (s next piece : ℕ) (h : is_served e s ≡ true) (l : length e.seat.places ≡ 8)
    (m : length e.day.series ≡ 8) where
  abbrev stepped : Sender
  stepped = with_place e s next piece

  abbrev step_at : ℕ
  step_at = index_of s (day_series e)

  index-few : step_at < 8
  index-few =
      let q = served-index e s h in
      rw m at q

  stepped-series : day_series stepped ≡ day_series e
  unfolding with_place day_series
  stepped-series = refl

  stepped-served : is_served stepped s ≡ true
  stepped-served = served-next e s h next piece s ∙ h

  abbrev new_place : Place
  new_place = record { login = true; next = next; piece = piece }

  stepped-seat : stepped.seat ≡ record { places = set e.seat.places step_at new_place }
  unfolding with_place
  stepped-seat = refl

  stepped-end : server_of e.day stepped.seat ≡ stepped
  unfolding with_place
  stepped-end = refl

  pub step-written : (ns : List ℕ) (i : ℕ) → kept_at ns i s stepped ≡ place_written ns i step_at new_place
  step-written ns i =
      rw (stepped-served, stepped-series, place-next e s h (record { series = m; places = l }) next piece) refl

-- ─── The box and its numbers after a seat's call ───

module _ (b : Relay) (ns : List ℕ) (i s : ℕ) (q : i < 16) where
  abbrev whole : Box
  whole = box_for b ns

  abbrev end : Sender
  end = server_of b.day (seat_for ns (24 * i))

  server-at : server_at whole i ≡ end
  server-at = ap (server_of b.day) (seat-read ns no_seat i q)

  abbrev with_seats : List Seat → Box
  with_seats l = record { receiver = b.receiver; reserves = b.reserves; day = b.day; seats = l }

  module _ (z : Eight end) where
    abbrev kept : Sender → Bool → List ℕ
    kept f w = cond w (kept_at ns i s f) ns

    after-box : (f : Sender) (w : Bool) → SeatStep end s f w → Whole ns → box_for b (kept f w) ≡ with_seat whole i f.seat
    after-box f w rests h =
        ap with_seats
        (sym (set-get_or (seats_for ns) i no_seat) ∙ ap (set (seats_for ns) i) (seat-read ns no_seat i q))
    after-box f w (steps next piece g) h =
        let few = index-few end s next piece g z.places z.series in
        rw (step-written end s next piece g z.places z.series ns i, stepped-seat end s next piece g z.places z.series)
        (ap with_seats (seat-written ns i (index_of s (day_series end)) (record { login = true; next = next; piece = piece }) h q few))

    at-end : (x : Seat) → server_at (with_seat whole i x) i ≡ server_of b.day x
    at-end x = ap (server_of b.day) (get_or-set_same (seats_for ns) i x no_seat (rw (sixteen ns) q))

    after-numbers : (f : Sender) (w : Bool) → SeatStep end s f w
        → kept f w ≡ cond w (seat_written ns i s (with_seat whole i f.seat)) ns
    after-numbers f w rests = refl
    after-numbers f w (steps next piece g) =
        let e = with_place end s next piece in
        rw (
          at-end e.seat,
          stepped-end end s next piece g z.places z.series,
          stepped-served end s next piece g z.places z.series,
        ) refl

    -- ─── Login ───

    login-cond : (x : Box) (a : LoggedIn) → login_numbers ns i s x a ≡ cond (is_ok a) (seat_written ns i s x) ns
    login-cond x (Ok n) = refl
    login-cond x (Err r) = refl

    pub logs-in : (p content out : List ℕ) (step : LoginStep) (after later : List ℕ) → LogsIn end s p content out step after
        → later ≡ kept step.end (is_ok step.answer)
        → LogsInSeat b ns i s p content out step.answer later after
    unfolding login_seat_of
    logs-in p content out step after later h n =
        let m = login_of end s p content out in
        let k : later ≡ kept m.end (is_ok m.answer) = rw (h.0, h.1.1) at n in
        let g = login-step end s p content out in
        rw (lt-ltb i 16 q, server-at) (
          λ w. ap (box_for b) k ∙ after-box m.end (is_ok m.answer) g w,
          h.1,
          k ∙ after-numbers m.end (is_ok m.answer) g
              ∙ sym (ap (login_numbers ns i s (with_seat whole i m.end.seat)) h.1.1
              ∙ login-cond (with_seat whole i m.end.seat) m.answer),
          h.2,
        )

    -- ─── Send ───

    sent-cond : (x : Box) (a : SendAnswer) → sent_numbers ns i s x a ≡ cond (sent_wrote a) (seat_written ns i s x) ns
    sent-cond x (Ok None) = refl
    sent-cond x (Ok (Some found)) = refl
    sent-cond x (Err r) = refl

    pub sends-at : (log out : List ℕ) (step : SendStep) (after later : List ℕ) → Sends end s log out step after
        → later ≡ kept step.end (sent_wrote step.answer) → SendsSeat b ns i s log out step.answer later after
    unfolding send_seat_of
    sends-at log out step after later h n =
        let m = send_of end s log out in
        let k : later ≡ kept m.end (sent_wrote m.answer) = rw (h.0, h.1.1) at n in
        let g = send-step end s log out in
        rw (lt-ltb i 16 q, server-at) (
          λ w. ap (box_for b) k ∙ after-box m.end (sent_wrote m.answer) g w,
          h.1,
          k ∙ after-numbers m.end (sent_wrote m.answer) g
              ∙ sym (ap (sent_numbers ns i s (with_seat whole i m.end.seat)) h.1.1
              ∙ sent-cond (with_seat whole i m.end.seat) m.answer),
          h.2,
        )

    -- ─── Send of one packet ───

    packet-cond : (x : Box) (a : PacketSent) → packet_numbers ns i s x a ≡ cond (packet_wrote a) (seat_written ns i s x) ns
    packet-cond x (Ok None) = refl
    packet-cond x (Ok (Some found)) = refl
    packet-cond x (Err r) = refl

    pub sends-packet-at : (log out : List ℕ) (step : SendPacketStep) (after later : List ℕ)
        → SendsPacket end s log out step after → later ≡ kept step.end (packet_wrote step.answer)
        → SendsPacketSeat b ns i s log out step.answer later after
    unfolding send_packet_seat_of
    sends-packet-at log out step after later h n =
        let m = send_packet_of end s log out in
        let k : later ≡ kept m.end (packet_wrote m.answer) = rw (h.0, h.1.1) at n in
        let g = packet-step end s log out in
        rw (lt-ltb i 16 q, server-at) (
          λ w. ap (box_for b) k ∙ after-box m.end (packet_wrote m.answer) g w,
          h.1,
          k ∙ after-numbers m.end (packet_wrote m.answer) g
              ∙ sym (ap (packet_numbers ns i s (with_seat whole i m.end.seat)) h.1.1
              ∙ packet-cond (with_seat whole i m.end.seat) m.answer),
          h.2,
        )

-- ─── As the calls have it ───

module _ (b : Relay) (ns : List ℕ) (i s : ℕ) (q : i ≤ 15) (seat : Seat) (server : Sender)
    (u : seat ≡ seat_for ns (24 * i)) (v : server ≡ server_of b.day seat) (z : Eight server) where
  is-end : server ≡ server_of b.day (seat_for ns (24 * i))
  is-end = v ∙ ap (server_of b.day) u

  pub login-as : (p content out : List ℕ) (step : LoginStep) (after later : List ℕ) (w : Bool) → LogsIn server s p content out step after
      → w ≡ is_ok step.answer → later ≡ cond w (kept_at ns i s step.end) ns
      → LogsInSeat b ns i s p content out step.answer later after
  login-as p content out step after later w h g n =
      logs-in b ns i s (omega arith) (rw is-end at z) p content out step after later (rw is-end at h) (rw g at n)

  pub send-as : (log out : List ℕ) (step : SendStep) (after later : List ℕ) (w : Bool) → Sends server s log out step after
      → w ≡ sent_wrote step.answer → later ≡ cond w (kept_at ns i s step.end) ns
      → SendsSeat b ns i s log out step.answer later after
  send-as log out step after later w h g n =
      sends-at b ns i s (omega arith) (rw is-end at z) log out step after later (rw is-end at h) (rw g at n)

  pub packet-as : (log out : List ℕ) (step : SendPacketStep) (after later : List ℕ) (w : Bool) → SendsPacket server s log out step after
      → w ≡ packet_wrote step.answer → later ≡ cond w (kept_at ns i s step.end) ns
      → SendsPacketSeat b ns i s log out step.answer later after
  packet-as log out step after later w h g n =
      sends-packet-at b ns i s (omega arith) (rw is-end at z) log out step after later (rw is-end at h) (rw g at n)

-- ─── 25 ───

module _ (b : Relay) (ns : List ℕ) (i s : ℕ) (q : 15 < i) where
  none-such : ltb i 16 ≡ false
  none-such = le-ltb i 16 (omega arith)

  pub login-none : (p content out : List ℕ) → LogsInSeat b ns i s p content out (Err NoSeat) ns out
  unfolding login_seat_of
  login-none p content out = rw none-such (λ w. refl, (refl, refl), refl, refl)

  pub send-none : (log out : List ℕ) → SendsSeat b ns i s log out (Err NoSeat) ns out
  unfolding send_seat_of
  send-none log out = rw none-such (λ w. refl, (refl, refl), refl, refl)

  pub packet-none : (log out : List ℕ) → SendsPacketSeat b ns i s log out (Err NoSeat) ns out
  unfolding send_packet_seat_of
  packet-none log out = rw none-such (λ w. refl, (refl, refl), refl, refl)
