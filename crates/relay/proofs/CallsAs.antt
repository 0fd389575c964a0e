-- Each call of the box, said by the calls of the ends. Assumes nothing.
use Prim.Native.Nat.{ℕ, ◌<◌, ◌≤◌}
use native.Mathlib.Omega.{arith}
use mathlib.Core.Path.{◌≡◌, refl, ap, ◌∙◌}
use mathlib.Core.List.{List, [], ◌∷◌}
use mathlib.Core.Bool.{Bool, true, false, not, ◌&&◌}
use borrow.Author.Tests.{lt-ltb, le-ltb, leb-false, eq-eqb, ne_eqb}
use lib.ListN.{length, replicate}
use lib.Seq.{get_or-set_same, get_or-set_other}
use lib.Dec.{eqb}
use Rattle.ftd.specs.Packet.{dated_of}
use Rattle.ftd.specs.declared.refusal.Refusal.{Refusal}
use Rattle.ftd.specs.declared.refusal.Refusal.TheVariants.{Opening, OtherDay, NoSeat}
use Rattle.ftd.specs.Types.{TradeDate}
use Rattle.flow.specs.declared.sender.Seat.{Seat}
use Rattle.flow.specs.declared.sender.Sender.{Sender}
use Rattle.flow.specs.Types.{Opened}
use Rattle.flow.specs.declared.receiver.Receiver.{Receiver}
use Rattle.flow.specs.Types.{Confirmed}
use Rattle.flow.specs.declared.receiver.Received.{Received}
use Rattle.flow.specs.declared.receiver.Received.TheVariants.{Idle, Duplicate, Partial, Complete}
use Rattle.flow.specs.declared.receiver.Received.TheVariants.{Refused as NotTaken}
use Rattle.flow.specs.Ends.{◌when◌else◌, Left, left, Wrote, wrote, before, up_to, no_place, kept_of, filled}
use Rattle.flow.specs.Ends.{logged_in}
use Rattle.flow.specs.Answers.{Message, message_in, confirmed_said, received_said}
use Rattle.flow.specs.Serving.{open_day_of, login_of, send_of, send_packet_of}
use Rattle.flow.specs.Receiving.{open_end_of, confirm_login_of, receive_of, dropped}
use Rattle.flow.proofs.calls.Serving.{OpenDone, open-refused, open-taken, open-cases}
use Rattle.flow.proofs.ends.ReceiverLookups.{Eight, with-changed}
use Rattle.flow.specs.Deciding.{receive_past}
use Rattle.relay.specs.State.{Box}
use Rattle.relay.specs.Box.{box, open_by, Relayed, relayed, no_seat, server_of, seat_of, server_at, serving, with_seat}
use Rattle.relay.specs.Box.{no_such_seat, confirm_past}
use Rattle.relay.specs.Box.{with_receiver, open_box_of, answer_way, answer_of, receive_way, receive_box_of}
use Rattle.relay.specs.Box.{login_seat_of, send_seat_of, send_packet_seat_of}
use Rattle.relay.specs.Seats.{standing}
use Rattle.relay.specs.Calls.{Shaped, passes, end_confirms, end_says, borne, earlier, publishing, opening_below}
use Rattle.relay.specs.Calls.{OnlyChain}
use Rattle.relay.specs.Calls.{AnswerAs, ReceiveAs, SeatAs, left_by}
use Rattle.relay.proofs.Calls.{login-end, send-end, packet-end}
use Rattle.relay.proofs.Ways.{hands-past, past-online}
use Rattle.relay.proofs.Effects.{Reached, dropped-kept, confirm-stays}
use Rattle.std.specs.Prelude.{Some, None, Ok, Err}

-- ─── Past row 15, by what is said and by the answer ───

pub past-confirm : (a : Confirmed) → confirm_past a ≡ passes (confirmed_said a)
past-confirm (Ok n) = refl
past-confirm (Err x) = refl

pub past-receive : (p buffer : List ℕ) (a : Received) → receive_past a ≡ passes (received_said p buffer a)
past-receive p buffer Idle = refl
past-receive p buffer (Duplicate n) = refl
past-receive p buffer (Partial n) = refl
past-receive p buffer (Complete n tid origin at) = refl
past-receive p buffer (NotTaken x) = refl

-- ─── A dropped chain ───

pub shaped-eight : (b : Box) → Shaped b → Eight b.receiver
shaped-eight b h = record { kept = h.kept; live = h.live }

pub only-chain : (b : Box) (s : ℕ) (log buffer : List ℕ) → Shaped b → Reached b.receiver s
    → OnlyChain (standing b log buffer) (standing (with_receiver b (dropped b.receiver s)) log buffer) s
only-chain b s log buffer h o =
    let e = b.receiver in
    let c = with-changed e (shaped-eight b h) s o.0 (kept_of e s).date (kept_of e s).last logged_in in
    record {
      in-before = o.1;
      now = c.live;
      others = c.others-live;
      kept = dropped-kept e s o.0;
      reserves = refl;
      day = refl;
      seats = refl;
      log = refl;
      buffer = refl;
    }

-- ─── Answer ───

-- A day that was opened leaves an empty seat.
opened-seat : (e : Sender) (d : ℕ) (ss rs log : List ℕ) → (open_day_of e d ss rs log).answer ≡ (Ok tt)
    → (open_day_of e d ss rs log).end.seat ≡ record { places = replicate 8 no_place }
opened-seat e d ss rs log q = go (open_day_of e d ss rs log) (open-cases e d ss rs log) q
  where
    go : (r : Left Sender Opened) → OpenDone e d ss rs log r → r.answer ≡ (Ok tt)
        → r.end.seat ≡ record { places = replicate 8 no_place }
    go r (open-refused x) q = let z : ◌≡◌ {A = ℕ} 0 1 = cc in absurd (omega arith)
    go r (open-taken a b c k) q = refl

above-not-before : (d : ℕ) (o : TradeDate) → up_to d o ≡ false → before (Some d) o ≡ false
above-not-before d None q = refl
above-not-before d (Some e) q = let z = leb-false d e q in le-ltb d e (omega arith)

pub opening-seat : (b : Box) (d : ℕ) (log : List ℕ) → (opening_below b d log).answer ≡ (Ok tt)
    → (opening_below b d log).end.seat ≡ record { places = replicate 8 no_place }
opening-seat b d log q = opened-seat (serving b) d _ _ log q

module _ (b : Box) (s : ℕ) (p log : List ℕ) where
  abbrev r : Left Receiver Confirmed
  r = confirm_login_of b.receiver s p

  late-so : passes (end_confirms b s p) ≡ true → before (dated_of p).date b.day.date ≡ true
      → answer_of b s p log ≡ left b (Err OtherDay)
  unfolding answer_of answer_way
  late-so q f = let z : confirm_past r.answer ≡ true = past-confirm r.answer ∙ q in rw (z, f) refl

  refused-so : (x : Refusal) → r.answer ≡ Err x
      → (passes (end_confirms b s p) && before (dated_of p).date b.day.date) ≡ false
      → answer_of b s p log ≡ left b (Err x)
  unfolding answer_of answer_way
  refused-so x q f = let z = confirm-stays b.receiver s p x q in rw (q, z, rw q at f) refl

  same-so : (n d : ℕ) → r.answer ≡ Ok n → (dated_of p).date ≡ Some d → before (Some d) b.day.date ≡ false
      → up_to d b.day.date ≡ true → answer_of b s p log ≡ left (with_receiver b r.end) (Ok n)
  unfolding answer_of answer_way
  same-so n d q f l u = rw (q, f, l, u) refl

  opens-so : (n d : ℕ) → r.answer ≡ Ok n → (dated_of p).date ≡ Some d
      → up_to d b.day.date ≡ false → (opening_below b d log).answer ≡ (Ok tt)
      → answer_of b s p log ≡ left
      (box r.end b.reserves (opening_below b d log).end.day
      (replicate 16 (record { places = replicate 8 no_place }))) (Ok n)
  unfolding answer_of answer_way
  opens-so n d q f u o =
      let l = above-not-before d b.day.date u in
      let z = opening-seat b d log o in
      rw (q, f, l, u, o, z) refl

  not-opened-so : (n d : ℕ) → r.answer ≡ Ok n → (dated_of p).date ≡ Some d → up_to d b.day.date ≡ false
      → (x : Refusal) → (opening_below b d log).answer ≡ Err x → answer_of b s p log ≡ left b (Err x)
  unfolding answer_of answer_way
  not-opened-so n d q f u x o = let l = above-not-before d b.day.date u in rw (q, f, l, u, o) refl

  pub answer-as : AnswerAs b s p log
  answer-as =
      record { late = late-so; refuses = refused-so; same-day = same-so; opens = opens-so; not_opened = not-opened-so }

-- ─── Receive ───

module _ (b : Box) (p log buffer : List ℕ) where
  abbrev w : Wrote Receiver Received
  w = receive_of b.receiver p buffer

  past-so : receive_past w.answer ≡ passes (end_says b p buffer)
  past-so = past-receive p w.bytes w.answer

  receive-late : passes (end_says b p buffer) ≡ true → earlier b p ≡ true
      → receive_box_of b p log buffer
      ≡ relayed (with_receiver b (dropped b.receiver (borne p))) (NotTaken OtherDay) log buffer
  unfolding receive_box_of receive_way
  receive-late q f = let z = past-so ∙ q in rw (z, f) refl

  receive-through : (passes (end_says b p buffer) && earlier b p) ≡ false → message_in (end_says b p buffer) ≡ []
      → receive_box_of b p log buffer ≡ relayed (with_receiver b w.end) w.answer log w.bytes
  unfolding receive_box_of receive_way
  receive-through q f =
      let z : (receive_past w.answer && earlier b p) ≡ false = ap (λ (x : Bool). x && earlier b p) past-so ∙ q in
      rw (z, f) refl

  receive-publishes : earlier b p ≡ false → (m : Message) → message_in (end_says b p buffer) ≡ m ∷ [] → (k : ℕ)
      → (publishing b p m log).answer ≡ Ok k →
      let q = publishing b p m log in
      receive_box_of b p log buffer ≡ relayed (box w.end b.reserves q.end.day b.seats) w.answer q.bytes
      w.bytes
  unfolding receive_box_of receive_way
  receive-publishes f m q k e =
      let z = hands-past p w.bytes w.answer m [] q in rw (z, f, q, e) refl

  receive-refuses : earlier b p ≡ false → (m : Message) → message_in (end_says b p buffer) ≡ m ∷ [] → (x : Refusal)
      → (publishing b p m log).answer ≡ Err x
      → receive_box_of b p log buffer
      ≡ relayed (with_receiver b (dropped b.receiver (borne p))) (NotTaken x) log buffer
  unfolding receive_box_of receive_way
  receive-refuses f m q x e =
      let z = hands-past p w.bytes w.answer m [] q in rw (z, f, q, e) refl

  module _ (h : Shaped b) where
    -- What is left, where only the chain is dropped.
    left-chain : (x : Refusal) → Reached b.receiver (borne p) → (o : Relayed)
        → o ≡ relayed (with_receiver b (dropped b.receiver (borne p))) (NotTaken x) log buffer
        → (o.answer ≡ NotTaken x) × OnlyChain (standing b log buffer) (left_by o) (borne p)
    left-chain x g o q = rw q (refl, only-chain b (borne p) log buffer h g)

    pub receive-as-end : ReceiveAs b p log buffer
    receive-as-end =
        record {
          late = λ q f.
              left-chain OtherDay (past-online b.receiver p buffer (past-so ∙ q)) (receive_box_of b p log buffer)
              (receive-late q f);
          through = receive-through;
          publishes = receive-publishes;
          refuses = λ f m q x e.
              left-chain x
              (past-online b.receiver p buffer (hands-past p w.bytes w.answer m [] q))
              (receive_box_of b p log buffer) (receive-refuses f m q x e);
        }

-- ─── Seats ───

seat-as : {A : Type 0} (b : Box) (i : ℕ) (q : Wrote Sender A) → Shaped b → i < 16
    → server_of b.day q.end.seat ≡ q.end
    → SeatAs b i (wrote (with_seat b i q.end.seat) q.answer q.bytes) q
seat-as b i q h l e =
    record {
      answer = refl;
      bytes = refl;
      server =
          ap (λ (x : Seat). server_of b.day x)
          (get_or-set_same b.seats i q.end.seat no_seat (omega (arith, h.seats))) ∙ e;
      others = λ j o. get_or-set_other b.seats i j q.end.seat no_seat o;
      receiver = refl;
      reserves = refl;
      day = refl;
    }

seat-there : (i : ℕ) → i < 16 → no_such_seat i ≡ false
seat-there i l = rw (lt-ltb i 16 l) refl

seat-missing : (i : ℕ) → 16 ≤ i → no_such_seat i ≡ true
seat-missing i l = rw (le-ltb i 16 l) refl

module _ (b : Box) (i s : ℕ) where
  module _ (h : Shaped b) (l : i < 16) where
    pub logs-in-as : (p content out : List ℕ)
        → SeatAs b i (login_seat_of b i s p content out) (login_of (server_at b i) s p content out)
    unfolding login_seat_of
    logs-in-as p content out =
        rw (seat-there i l)
        (seat-as b i (login_of (server_at b i) s p content out) h l
        (login-end b.day (seat_of b i) s p content out))

    pub sends-as : (log out : List ℕ) → SeatAs b i (send_seat_of b i s log out) (send_of (server_at b i) s log out)
    unfolding send_seat_of
    sends-as log out =
        rw (seat-there i l)
        (seat-as b i (send_of (server_at b i) s log out) h l (send-end b.day (seat_of b i) s log out))

    pub sends-packet-as : (log out : List ℕ)
        → SeatAs b i (send_packet_seat_of b i s log out) (send_packet_of (server_at b i) s log out)
    unfolding send_packet_seat_of
    sends-packet-as log out =
        rw (seat-there i l)
        (seat-as b i (send_packet_of (server_at b i) s log out) h l (packet-end b.day (seat_of b i) s log out))

  module _ (l : 16 ≤ i) where
    pub no-login-as : (p content out : List ℕ)
        → login_seat_of b i s p content out ≡ record { end = b; answer = Err NoSeat; bytes = out }
    unfolding login_seat_of
    no-login-as p content out = rw (seat-missing i l) refl

    pub no-send-as : (log out : List ℕ) → send_seat_of b i s log out ≡ record { end = b; answer = Err NoSeat; bytes = out }
    unfolding send_seat_of
    no-send-as log out = rw (seat-missing i l) refl

    pub no-packet-as : (log out : List ℕ)
        → send_packet_seat_of b i s log out ≡ record { end = b; answer = Err NoSeat; bytes = out }
    unfolding send_packet_seat_of
    no-packet-as log out = rw (seat-missing i l) refl

-- ─── Opening ───

module _ (b : Box) (ss rs : List ℕ) where
  pub opening-short-as : (length rs ≡ length ss → ⊥) → open_box_of b ss rs ≡ left b (Err Opening)
  unfolding open_box_of
  opening-short-as o = rw (ne_eqb (length rs) (length ss) o) refl

  pub opening-end : length rs ≡ length ss →
      let r = open_box_of b ss rs in
      (r.answer ≡ (open_end_of b.receiver ss).answer) × (r.end.receiver ≡ (open_end_of b.receiver ss).end)
  unfolding open_box_of
  opening-end q = let z = eq-eqb (length rs) (length ss) q in rw z (refl, refl)

  pub opening-reserves-as : (open_box_of b ss rs).answer ≡ (Ok tt) → (open_box_of b ss rs).end.reserves ≡ filled 0 rs
  unfolding open_box_of
  opening-reserves-as = go (not (eqb (length rs) (length ss))) (open_end_of b.receiver ss)
    where
      go : (c : Bool) (r : Left Receiver Opened)
          → (left b (Err Opening) when c else open_by b rs r).answer ≡ (Ok tt)
          → (left b (Err Opening) when c else open_by b rs r).end.reserves ≡ filled 0 rs
      go true r q = let z : ◌≡◌ {A = ℕ} 0 1 = cc in absurd (omega arith)
      go false r q = rw q refl
