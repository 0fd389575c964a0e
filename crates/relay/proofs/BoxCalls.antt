-- `BoxCalls`: what each call of the box changes and leaves. Assumes nothing.
use Prim.Native.Nat.{ℕ, ◌<◌, ◌≤◌}
use native.Mathlib.Omega.{arith}
use mathlib.Core.Path.{◌≡◌, refl, ap, sym, ◌∙◌}
use mathlib.Core.List.{List, []}
use mathlib.Core.Logic.{inl, inr}
use mathlib.Core.Bool.{Bool, true, false, not, ◌&&◌}
use borrow.Author.Tests.{eqb-false}
use lib.ListN.{length, get_or, replicate, length-set}
use lib.Seq.{get_or-set_other}
use lib.Dec.{eqb}
use Rattle.ftd.specs.Packet.{dated_of}
use Rattle.ftd.specs.Refusal.{number_of}
use Rattle.ftd.specs.declared.refusal.Refusal.{Refusal}
use Rattle.ftd.specs.declared.refusal.Refusal.TheVariants.{Opening, NoSeat}
use Rattle.flow.specs.declared.sender.Seat.{Seat}
use Rattle.flow.specs.declared.sender.Sender.{Sender}
use Rattle.flow.specs.Types.{Opened}
use Rattle.flow.specs.Types.{LoggedIn}
use Rattle.flow.specs.declared.receiver.Receiver.{Receiver}
use Rattle.flow.specs.Types.{Confirmed}
use Rattle.flow.specs.declared.receiver.Received.TheVariants.{Idle, Duplicate, Partial, Complete}
use Rattle.flow.specs.declared.receiver.Received.TheVariants.{Refused as NotTaken}
use Rattle.flow.specs.Ends.{Left, left, Wrote, wrote, no_place}
use Rattle.flow.specs.Answers.{Said, refused, opened, published, answered, sent, sent_packet, none, asked, confirmed, idle}
use Rattle.flow.specs.Answers.{again, held, handed_on, off, is_taken, message_in, opened_said, login_said, sent_said, sent_packet_said}
use Rattle.flow.specs.Answers.{confirmed_said, received_said, kept, returned}
use Rattle.flow.specs.Serving.{login_of, send_of, send_packet_of}
use Rattle.flow.specs.Receiving.{open_end_of, connect_of, request_login_of, confirm_login_of}
use Rattle.flow.proofs.common.Bools.{clash}
use Rattle.flow.proofs.common.Rows.{by-when}
use Rattle.flow.proofs.calls.Receiving.{Confirmed-as, confirms, confirm-as, Opened-as, open-as}
use Rattle.flow.proofs.calls.Serving.{LoginDone, login-refused, login-taken, login-cases, SendDone, send-unknown}
use Rattle.flow.proofs.calls.Serving.{send-outside, send-drained}
use Rattle.flow.proofs.calls.Serving.{send-damaged, send-small, send-taken, send-cases, PacketDone, packet-unknown}
use Rattle.flow.proofs.calls.Serving.{packet-outside, packet-drained, packet-damaged, packet-missing, packet-small}
use Rattle.flow.proofs.calls.Serving.{packet-taken, packet-cases}
use Rattle.flow.proofs.ends.ReceiverLookups.{Eight, with-changed}
use Rattle.flow.proofs.ends.ReceiverOpened.{opened-eight, connect-eight, connect-live}
use Rattle.flow.proofs.packets.Requests.{request-end}
use Rattle.relay.specs.State.{Box}
use Rattle.relay.specs.Box.{box, open_by, Relayed, no_seat, seat_of, server_at, with_seat, with_receiver, no_such_seat}
use Rattle.relay.specs.Box.{open_box_of, connect_box_of, ask_of, login_seat_of, send_seat_of}
use Rattle.relay.specs.Box.{send_packet_seat_of}
use Rattle.relay.specs.Seats.{BoxCall, opening, connect, ask, answer, receive, login, send, send_packet, Standing}
use Rattle.relay.specs.Seats.{standing, after, shows}
use Rattle.relay.specs.Calls.{Shaped, any, higher, opens_day, hands_on, is_receiving, sets_reserves, moves_seat, towards_above}
use Rattle.relay.specs.Calls.{end_says, borne, SameSeries, OnlyChain, left_by, BoxCalls}
use Rattle.relay.proofs.Effects.{set_own, AnswerEffect, turned, stayed, turns, answer-effect, ReceiveEffect}
use Rattle.relay.proofs.Effects.{receive-effect, Small}
use Rattle.relay.proofs.CallsAs.{shaped-eight, only-chain, opening-seat, answer-as, receive-as-end, logs-in-as, sends-as}
use Rattle.relay.proofs.CallsAs.{sends-packet-as, no-login-as, no-send-as, no-packet-as, opening-short-as, opening-end}
use Rattle.relay.proofs.CallsAs.{opening-reserves-as}
use Rattle.relay.proofs.Logged.{logged-run}
use Rattle.relay.proofs.Together.{both-lines}
use Rattle.std.specs.Prelude.{Ok, Err}
use Rattle.flow.specs.Types.{SendAnswer, PacketSent}

-- What wrote something was taken.
pub wrote-taken : (a : Said) → any (off a).wrote ≡ true → is_taken a ≡ true
wrote-taken (refused n) q = clash false q refl
wrote-taken opened q = refl
wrote-taken (published k) q = refl
wrote-taken (answered n) q = refl
wrote-taken (sent k n) q = refl
wrote-taken (sent_packet k n last) q = refl
wrote-taken none q = refl
wrote-taken (asked n) q = refl
wrote-taken (confirmed n) q = refl
wrote-taken idle q = refl
wrote-taken (again n) q = refl
wrote-taken (held n) q = refl
wrote-taken (handed_on n m) q = refl
wrote-taken kept q = refl
wrote-taken returned q = refl

-- ─── A call of a seat: nothing changed, or it wrote something ───

pub data SeatLeft {A : Type 0} (said : A → Said) (b : Box) (i : ℕ) (out : List ℕ) : Wrote Box A → Type 0 where
  rested : (a : A) → SeatLeft said b i out (wrote b a out)
  moved : (X : Seat) (a : A) (bytes : List ℕ) → any (off (said a)).wrote ≡ true
      → SeatLeft said b i out (wrote (with_seat b i X) a bytes)

-- A seat set to what it is.
seat-own : (b : Box) (i : ℕ) → with_seat b i (seat_of b i) ≡ b
seat-own b i = ap (λ (l : List Seat). box b.receiver b.reserves b.day l) (set_own b.seats i no_seat)

module _ (b : Box) (i s : ℕ) where
  abbrev e : Sender
  e = server_at b i

  pub login-left : (p content out : List ℕ) → SeatLeft login_said b i out (login_seat_of b i s p content out)
  unfolding login_seat_of
  login-left p content out =
      by-when (SeatLeft login_said b i out) (no_such_seat i) (λ q. rested (Err NoSeat)) λ q.
      go (login_of e s p content out) (login-cases e s p content out)
    where
      go : (r : Wrote Sender LoggedIn) → LoginDone e s p content out r
          → SeatLeft login_said b i out (wrote (with_seat b i r.end.seat) r.answer r.bytes)
      go r (login-refused x) = rw (seat-own b i) (rested (Err x))
      go r (login-taken h x c a d g t) = moved _ _ _ refl

  pub send-left : (log out : List ℕ) → SeatLeft sent_said b i out (send_seat_of b i s log out)
  unfolding send_seat_of
  send-left log out =
      by-when (SeatLeft sent_said b i out) (no_such_seat i) (λ q. rested (Err NoSeat)) λ q.
      go (send_of e s log out) (send-cases e s log out)
    where
      go : (r : Wrote Sender SendAnswer) → SendDone e s log out r
          → SeatLeft sent_said b i out (wrote (with_seat b i r.end.seat) r.answer r.bytes)
      go r (send-unknown a) = rw (seat-own b i) (rested _)
      go r (send-outside a c) = rw (seat-own b i) (rested _)
      go r (send-drained a c) = rw (seat-own b i) (rested _)
      go r (send-damaged a c d) = rw (seat-own b i) (rested _)
      go r (send-small x a c d f) = rw (seat-own b i) (rested _)
      go r (send-taken x a c d f) = moved _ _ _ refl

  pub packet-left : (log out : List ℕ) → SeatLeft sent_packet_said b i out (send_packet_seat_of b i s log out)
  unfolding send_packet_seat_of
  packet-left log out =
      by-when (SeatLeft sent_packet_said b i out) (no_such_seat i) (λ q. rested (Err NoSeat)) λ q.
      go (send_packet_of e s log out) (packet-cases e s log out)
    where
      go : (r : Wrote Sender PacketSent) → PacketDone e s log out r
          → SeatLeft sent_packet_said b i out (wrote (with_seat b i r.end.seat) r.answer r.bytes)
      go r (packet-unknown a) = rw (seat-own b i) (rested _)
      go r (packet-outside a c) = rw (seat-own b i) (rested _)
      go r (packet-drained a c) = rw (seat-own b i) (rested _)
      go r (packet-damaged a c d) = rw (seat-own b i) (rested _)
      go r (packet-missing x a c d f) = rw (seat-own b i) (rested _)
      go r (packet-small x a c d f g) = rw (seat-own b i) (rested _)
      go r (packet-taken x a c d f g) = moved _ _ _ refl

and-true : (a : Bool) → (a && true) ≡ false → a ≡ false
and-true true q = q
and-true false q = refl

module _ {A : Type 0} (said : A → Said) (b : Box) (j : ℕ) (out : List ℕ) where
  left-seat : (r : Wrote Box A) → SeatLeft said b j out r → (i : ℕ)
      → (eqb j i && any (off (said r.answer)).wrote) ≡ false → seat_of r.end i ≡ seat_of b i
  left-seat r (rested a) i q = refl
  left-seat r (moved X a bytes w) i q =
      let z = eqb-false j i (and-true (eqb j i) (rw w at q)) in
      get_or-set_other b.seats j i X no_seat (λ e. z (sym e))

  left-refused : (r : Wrote Box A) → SeatLeft said b j out r → is_taken (said r.answer) ≡ false → r.end ≡ b
  left-refused r (rested a) q = refl
  left-refused r (moved X a bytes w) q = clash (is_taken (said a)) (wrote-taken (said a) w) q

  left-shaped : (r : Wrote Box A) → SeatLeft said b j out r → Shaped b → Shaped r.end
  left-shaped r (rested a) h = h
  left-shaped r (moved X a bytes w) h =
      record { kept = h.kept; live = h.live; seats = length-set b.seats j X ∙ h.seats }

  left-day : (r : Wrote Box A) → SeatLeft said b j out r → r.end.day ≡ b.day
  left-day r (rested a) = refl
  left-day r (moved X a bytes w) = refl

  left-reserves : (r : Wrote Box A) → SeatLeft said b j out r → r.end.reserves ≡ b.reserves
  left-reserves r (rested a) = refl
  left-reserves r (moved X a bytes w) = refl

  left-receiver : (r : Wrote Box A) → SeatLeft said b j out r → r.end.receiver ≡ b.receiver
  left-receiver r (rested a) = refl
  left-receiver r (moved X a bytes w) = refl

-- ─── Opening: nothing changed, or the receiving end and its reserves set ───

pub data OpenLeft (b : Box) : Left Box Opened → Type 0 where
  rested : (x : Refusal) → OpenLeft b (left b (Err x))
  set-up : (e : Receiver) (rs : List ℕ) → Eight e → OpenLeft b (left (box e rs b.day b.seats) (Ok tt))

pub open-left : (b : Box) (ss rs : List ℕ) → OpenLeft b (open_box_of b ss rs)
unfolding open_box_of
open-left b ss rs =
    by-when (OpenLeft b) (not (eqb (length rs) (length ss))) (λ q. rested Opening) λ q.
    go (open_end_of b.receiver ss) (open-as b.receiver ss)
  where
    go : (r : Left Receiver Opened) → Opened-as b.receiver ss r → OpenLeft b (open_by b rs r)
    go r Opened-as.refuses = rested Opening
    go r (Opened-as.opens q w) = set-up _ _ (opened-eight ss w)

module _ (b : Box) where
  open-shaped : (r : Left Box Opened) → OpenLeft b r → Shaped b → Shaped r.end
  open-shaped r (rested x) h = h
  open-shaped r (set-up e rs g) h = record { kept = g.kept; live = g.live; seats = h.seats }

  open-seats : (r : Left Box Opened) → OpenLeft b r → r.end.seats ≡ b.seats
  open-seats r (rested x) = refl
  open-seats r (set-up e rs g) = refl

  open-day : (r : Left Box Opened) → OpenLeft b r → r.end.day ≡ b.day
  open-day r (rested x) = refl
  open-day r (set-up e rs g) = refl

  open-reserves : (r : Left Box Opened) → OpenLeft b r → is_taken (opened_said r.answer) ≡ false
      → r.end.reserves ≡ b.reserves
  open-reserves r (rested x) q = refl
  open-reserves r (set-up e rs g) q = clash true refl q

  pub open-refused : (r : Left Box Opened) → OpenLeft b r → is_taken (opened_said r.answer) ≡ false → r.end ≡ b
  open-refused r (rested x) q = refl
  open-refused r (set-up e rs g) q = clash true refl q

-- ─── Answer ───

confirm-others : (e : Receiver) (s : ℕ) (p : List ℕ) → Eight e
    → Eight (confirm_login_of e s p).end × ((t : ℕ) → (t ≡ s → ⊥) → SameSeries e (confirm_login_of e s p).end t)
confirm-others e s p h = go (confirm_login_of e s p) (confirm-as e s p)
  where
    go : (r : Left Receiver Confirmed) → Confirmed-as e s (dated_of p).date r
        → Eight r.end × ((t : ℕ) → (t ≡ s → ⊥) → SameSeries e r.end t)
    go r (Confirmed-as.refuses x) = (h, λ t o. record { opens = refl; kept = refl; live = refl })
    go r (confirms d i o b) =
        let c = with-changed e h s o _ _ _ in
        (c.eight, λ t z. record { opens = c.opens t; kept = c.others-kept t z; live = c.others-live t z })

module _ (b : Box) (s : ℕ) (p log : List ℕ) where
  abbrev D : Left Box Confirmed → Type 0
  D = AnswerEffect b s p log

  abbrev opens_by : Left Box Confirmed → Bool
  opens_by r = is_taken (confirmed_said r.answer) && higher (dated_of p).date b.day.date

  answer-shaped : (r : Left Box Confirmed) → D r → Shaped b → Shaped r.end
  answer-shaped r (turned x) h = h
  answer-shaped r (stayed n d q f u) h =
      let z = (confirm-others b.receiver s p (shaped-eight b h)).0 in
      record { kept = z.kept; live = z.live; seats = h.seats }
  answer-shaped r (turns n d q f u o) h =
      let z = (confirm-others b.receiver s p (shaped-eight b h)).0 in
      record { kept = z.kept; live = z.live; seats = refl }

  answer-seats : (r : Left Box Confirmed) → D r → opens_by r ≡ false → r.end.seats ≡ b.seats
  answer-seats r (turned x) g = refl
  answer-seats r (stayed n d q f u) g = refl
  answer-seats r (turns n d q f u o) g = clash true refl (rw (f, u) at g)

  answer-empty : (r : Left Box Confirmed) → D r → opens_by r ≡ true
      → r.end.seats ≡ replicate 16 (record { places = replicate 8 no_place })
  answer-empty r (turned x) g = clash false g refl
  answer-empty r (stayed n d q f u) g = clash false (rw (f, u) at g) refl
  answer-empty r (turns n d q f u o) g = ap (replicate 16) (opening-seat b d log o)

  answer-day : (r : Left Box Confirmed) → D r → opens_by r ≡ false → r.end.day ≡ b.day
  answer-day r (turned x) g = refl
  answer-day r (stayed n d q f u) g = refl
  answer-day r (turns n d q f u o) g = clash true refl (rw (f, u) at g)

  answer-reserves : (r : Left Box Confirmed) → D r → r.end.reserves ≡ b.reserves
  answer-reserves r (turned x) = refl
  answer-reserves r (stayed n d q f u) = refl
  answer-reserves r (turns n d q f u o) = refl

  pub answer-refused : (r : Left Box Confirmed) → D r → is_taken (confirmed_said r.answer) ≡ false → r.end ≡ b
  answer-refused r (turned x) g = refl
  answer-refused r (stayed n d q f u) g = clash true refl g
  answer-refused r (turns n d q f u o) g = clash true refl g

  answer-beside : (r : Left Box Confirmed) → D r → Shaped b → (t : ℕ) → (t ≡ s → ⊥)
      → SameSeries b.receiver r.end.receiver t
  answer-beside r (turned x) h t z = record { opens = refl; kept = refl; live = refl }
  answer-beside r (stayed n d q f u) h t z = (confirm-others b.receiver s p (shaped-eight b h)).1 t z
  answer-beside r (turns n d q f u o) h t z = (confirm-others b.receiver s p (shaped-eight b h)).1 t z

-- ─── Receive ───

module _ (b : Box) (p log buffer : List ℕ) where
  abbrev R : Relayed → Type 0
  R = ReceiveEffect b p log buffer

  abbrev handed : Relayed → Bool
  handed r = any (message_in (received_said p r.buffer r.answer))

  receive-shaped : (r : Relayed) → R r → Shaped b → Shaped r.end
  receive-shaped r (ReceiveEffect.rests a q m) h = h
  receive-shaped r (ReceiveEffect.drops o x m) h =
      let z = (with-changed b.receiver (shaped-eight b h) (borne p) o.0 _ _ _).eight in
      record { kept = z.kept; live = z.live; seats = h.seats }
  receive-shaped r (ReceiveEffect.again o n) h =
      let z = (with-changed b.receiver (shaped-eight b h) (borne p) o.0 _ _ _).eight in
      record { kept = z.kept; live = z.live; seats = h.seats }
  receive-shaped r (ReceiveEffect.holds o last live n bytes) h =
      let z = (with-changed b.receiver (shaped-eight b h) (borne p) o.0 _ _ _).eight in
      record { kept = z.kept; live = z.live; seats = h.seats }
  receive-shaped r (ReceiveEffect.hands o last live n tid origin at bytes day more) h =
      let z = (with-changed b.receiver (shaped-eight b h) (borne p) o.0 _ _ _).eight in
      record { kept = z.kept; live = z.live; seats = h.seats }

  receive-seats : (r : Relayed) → R r → r.end.seats ≡ b.seats
  receive-seats r (ReceiveEffect.rests a q m) = refl
  receive-seats r (ReceiveEffect.drops o x m) = refl
  receive-seats r (ReceiveEffect.again o n) = refl
  receive-seats r (ReceiveEffect.holds o last live n bytes) = refl
  receive-seats r (ReceiveEffect.hands o last live n tid origin at bytes day more) = refl

  receive-reserves : (r : Relayed) → R r → r.end.reserves ≡ b.reserves
  receive-reserves r (ReceiveEffect.rests a q m) = refl
  receive-reserves r (ReceiveEffect.drops o x m) = refl
  receive-reserves r (ReceiveEffect.again o n) = refl
  receive-reserves r (ReceiveEffect.holds o last live n bytes) = refl
  receive-reserves r (ReceiveEffect.hands o last live n tid origin at bytes day more) = refl

  receive-day : (r : Relayed) → R r → handed r ≡ false → r.end.day ≡ b.day
  receive-day r (ReceiveEffect.rests a q m) g = refl
  receive-day r (ReceiveEffect.drops o x m) g = refl
  receive-day r (ReceiveEffect.again o n) g = refl
  receive-day r (ReceiveEffect.holds o last live n bytes) g = refl
  receive-day r (ReceiveEffect.hands o last live n tid origin at bytes day more) g = clash true refl g

  receive-log : (r : Relayed) → R r → handed r ≡ false → r.log ≡ log
  receive-log r (ReceiveEffect.rests a q m) g = refl
  receive-log r (ReceiveEffect.drops o x m) g = refl
  receive-log r (ReceiveEffect.again o n) g = refl
  receive-log r (ReceiveEffect.holds o last live n bytes) g = refl
  receive-log r (ReceiveEffect.hands o last live n tid origin at bytes day more) g = clash true refl g

  receive-beside : (r : Relayed) → R r → Shaped b → (t : ℕ) → (t ≡ borne p → ⊥)
      → SameSeries b.receiver r.end.receiver t
  receive-beside r (ReceiveEffect.rests a q m) h t z = record { opens = refl; kept = refl; live = refl }
  receive-beside r (ReceiveEffect.drops o x m) h t z =
      let c = with-changed b.receiver (shaped-eight b h) (borne p) o.0 _ _ _ in
      record { opens = c.opens t; kept = c.others-kept t z; live = c.others-live t z }
  receive-beside r (ReceiveEffect.again o n) h t z =
      let c = with-changed b.receiver (shaped-eight b h) (borne p) o.0 _ _ _ in
      record { opens = c.opens t; kept = c.others-kept t z; live = c.others-live t z }
  receive-beside r (ReceiveEffect.holds o last live n bytes) h t z =
      let c = with-changed b.receiver (shaped-eight b h) (borne p) o.0 _ _ _ in
      record { opens = c.opens t; kept = c.others-kept t z; live = c.others-live t z }
  receive-beside r (ReceiveEffect.hands o last live n tid origin at bytes day more) h t z =
      let c = with-changed b.receiver (shaped-eight b h) (borne p) o.0 _ _ _ in
      record { opens = c.opens t; kept = c.others-kept t z; live = c.others-live t z }

  -- Refused: by its number, and by whether the receiving end handed a message on.
  pub same_number : (n k : ℕ) → refused n ≡ refused k → n ≡ k
  same_number n k q = cc

  early : (r : Relayed) → R r → (n : ℕ) → received_said p r.buffer r.answer ≡ refused n → n < 15
      → message_in (end_says b p buffer) ≡ [] → left_by r ≡ standing b log buffer
  early r (ReceiveEffect.rests a q m) n f l g = refl
  early r (ReceiveEffect.drops o x (inl m)) n f l g = let z = same_number (number_of x) n f in absurd (omega arith)
  early r (ReceiveEffect.drops o x (inr m)) n f l g = clash false (rw g at m) refl
  early r (ReceiveEffect.again o k) n f l g = let z : ◌≡◌ {A = ℕ} 0 1 = cc in absurd (omega arith)
  early r (ReceiveEffect.holds o last live k bytes) n f l g = let z : ◌≡◌ {A = ℕ} 0 1 = cc in absurd (omega arith)
  early r (ReceiveEffect.hands o last live k tid origin at bytes day more) n f l g =
      let z : ◌≡◌ {A = ℕ} 0 1 = cc in absurd (omega arith)

  pub small-refused : (a : _) → Small a → (n : ℕ) → received_said p buffer a ≡ refused n → n < 15
  small-refused Idle q n f = let z : ◌≡◌ {A = ℕ} 0 1 = cc in absurd (omega arith)
  small-refused (Duplicate k) q n f = absurd q
  small-refused (Partial k) q n f = absurd q
  small-refused (Complete k tid origin at) q n f = absurd q
  small-refused (NotTaken x) q n f = let z = same_number (number_of x) n f in omega arith

  late : (r : Relayed) → R r → Shaped b → (n : ℕ) → received_said p r.buffer r.answer ≡ refused n → 15 ≤ n
      → OnlyChain (standing b log buffer) (left_by r) (borne p)
  late r (ReceiveEffect.rests a q m) h n f l = let z = small-refused a q n f in absurd (omega arith)
  late r (ReceiveEffect.drops o x m) h n f l = only-chain b (borne p) log buffer h o
  late r (ReceiveEffect.again o k) h n f l = let z : ◌≡◌ {A = ℕ} 0 1 = cc in absurd (omega arith)
  late r (ReceiveEffect.holds o last live k bytes) h n f l = let z : ◌≡◌ {A = ℕ} 0 1 = cc in absurd (omega arith)
  late r (ReceiveEffect.hands o last live k tid origin at bytes day more) h n f l =
      let z : ◌≡◌ {A = ℕ} 0 1 = cc in absurd (omega arith)

  unpublished : (r : Relayed) → R r → Shaped b → (n : ℕ) → received_said p r.buffer r.answer ≡ refused n
      → any (message_in (end_says b p buffer)) ≡ true → OnlyChain (standing b log buffer) (left_by r) (borne p)
  unpublished r (ReceiveEffect.rests a q m) h n f g = clash false (rw m at g) refl
  unpublished r (ReceiveEffect.drops o x m) h n f g = only-chain b (borne p) log buffer h o
  unpublished r (ReceiveEffect.again o k) h n f g = let z : ◌≡◌ {A = ℕ} 0 1 = cc in absurd (omega arith)
  unpublished r (ReceiveEffect.holds o last live k bytes) h n f g = let z : ◌≡◌ {A = ℕ} 0 1 = cc in absurd (omega arith)
  unpublished r (ReceiveEffect.hands o last live k tid origin at bytes day more) h n f g =
      let z : ◌≡◌ {A = ℕ} 0 1 = cc in absurd (omega arith)

-- ─── Ask and Connect ───

ask-end : (b : Box) (s : ℕ) (content out : List ℕ) → (ask_of b s content out).end ≡ b
unfolding ask_of
ask-end b s content out = ap (λ (e : Receiver). with_receiver b e) (request-end b.receiver s content out)

ask-answer : (b : Box) (s : ℕ) (content out : List ℕ) →
    let r = ask_of b s content out in
    let q = request_login_of b.receiver s content out in
    (r.answer ≡ q.answer) × (r.bytes ≡ q.bytes)
unfolding ask_of
ask-answer b s content out = (refl, refl)

connect-end : (b : Box) → connect_box_of b ≡ with_receiver b (connect_of b.receiver)
unfolding connect_box_of
connect-end b = refl

connect-keeps : (e : Receiver) → (connect_of e).kept ≡ e.kept
unfolding connect_of
connect-keeps e = refl

-- ─── Every call ───

seat-same : (k l : List Seat) (i : ℕ) → k ≡ l → get_or k i no_seat ≡ get_or l i no_seat
seat-same k l i q = ap (λ (m : List Seat). get_or m i no_seat) q

module _ (x : Standing) where
  abbrev B : Box
  B = x.box

  shaped-all : (c : BoxCall) → Shaped B → Shaped (after x c).box
  shaped-all (opening ss rs) h = open-shaped B _ (open-left B ss rs) h
  shaped-all connect h =
      let z = connect-eight B.receiver (shaped-eight B h) in
      rw (connect-end B) record { kept = z.kept; live = z.live; seats = h.seats }
  shaped-all (ask s content out) h = rw (ask-end B s content out) h
  shaped-all (answer s p) h = answer-shaped B s p x.log _ (answer-effect B s p x.log) h
  shaped-all (receive p) h =
      receive-shaped B p x.log x.buffer _ (receive-effect B p x.log x.buffer) h
  shaped-all (login i s p content out) h = left-shaped login_said B i out _ (login-left B i s p content out) h
  shaped-all (send i s out) h = left-shaped sent_said B i out _ (send-left B i s x.log out) h
  shaped-all (send_packet i s out) h = left-shaped sent_packet_said B i out _ (packet-left B i s x.log out) h

  seat-all : (c : BoxCall) (i : ℕ) → moves_seat i x c ≡ false → opens_day x c ≡ false → seat_of (after x c).box i ≡ seat_of B i
  seat-all (opening ss rs) i m o = seat-same _ B.seats i (open-seats B _ (open-left B ss rs))
  seat-all connect i m o = rw (connect-end B) refl
  seat-all (ask s content out) i m o = rw (ask-end B s content out) refl
  seat-all (answer s p) i m o =
      seat-same _ B.seats i (answer-seats B s p x.log _ (answer-effect B s p x.log) o)
  seat-all (receive p) i m o =
      seat-same _ B.seats i (receive-seats B p x.log x.buffer _ (receive-effect B p x.log x.buffer))
  seat-all (login j s p content out) i m o = left-seat login_said B j out _ (login-left B j s p content out) i m
  seat-all (send j s out) i m o = left-seat sent_said B j out _ (send-left B j s x.log out) i m
  seat-all (send_packet j s out) i m o = left-seat sent_packet_said B j out _ (packet-left B j s x.log out) i m

  empty-all : (c : BoxCall) → opens_day x c ≡ true
      → (after x c).box.seats ≡ replicate 16 (record { places = replicate 8 no_place })
  empty-all (opening ss rs) o = clash false o refl
  empty-all connect o = clash false o refl
  empty-all (ask s content out) o = clash false o refl
  empty-all (answer s p) o = answer-empty B s p x.log _ (answer-effect B s p x.log) o
  empty-all (receive p) o = clash false o refl
  empty-all (login i s p content out) o = clash false o refl
  empty-all (send i s out) o = clash false o refl
  empty-all (send_packet i s out) o = clash false o refl

  day-all : (c : BoxCall) → opens_day x c ≡ false → hands_on x c ≡ false → (after x c).box.day ≡ B.day
  day-all (opening ss rs) o m = open-day B _ (open-left B ss rs)
  day-all connect o m = rw (connect-end B) refl
  day-all (ask s content out) o m = rw (ask-end B s content out) refl
  day-all (answer s p) o m = answer-day B s p x.log _ (answer-effect B s p x.log) o
  day-all (receive p) o m = receive-day B p x.log x.buffer _ (receive-effect B p x.log x.buffer) m
  day-all (login i s p content out) o m = left-day login_said B i out _ (login-left B i s p content out)
  day-all (send i s out) o m = left-day sent_said B i out _ (send-left B i s x.log out)
  day-all (send_packet i s out) o m = left-day sent_packet_said B i out _ (packet-left B i s x.log out)

  log-all : (c : BoxCall) → hands_on x c ≡ false → (after x c).log ≡ x.log
  log-all (opening ss rs) m = refl
  log-all connect m = refl
  log-all (ask s content out) m = refl
  log-all (answer s p) m = refl
  log-all (receive p) m = receive-log B p x.log x.buffer _ (receive-effect B p x.log x.buffer) m
  log-all (login i s p content out) m = refl
  log-all (send i s out) m = refl
  log-all (send_packet i s out) m = refl

  buffer-all : (c : BoxCall) → is_receiving c ≡ false → (after x c).buffer ≡ x.buffer
  buffer-all (opening ss rs) m = refl
  buffer-all connect m = refl
  buffer-all (ask s content out) m = refl
  buffer-all (answer s p) m = refl
  buffer-all (receive p) m = clash true refl m
  buffer-all (login i s p content out) m = refl
  buffer-all (send i s out) m = refl
  buffer-all (send_packet i s out) m = refl

  reserves-all : (c : BoxCall) → sets_reserves x c ≡ false → (after x c).box.reserves ≡ B.reserves
  reserves-all (opening ss rs) m = open-reserves B _ (open-left B ss rs) m
  reserves-all connect m = rw (connect-end B) refl
  reserves-all (ask s content out) m = rw (ask-end B s content out) refl
  reserves-all (answer s p) m = answer-reserves B s p x.log _ (answer-effect B s p x.log)
  reserves-all (receive p) m =
      receive-reserves B p x.log x.buffer _ (receive-effect B p x.log x.buffer)
  reserves-all (login i s p content out) m = left-reserves login_said B i out _ (login-left B i s p content out)
  reserves-all (send i s out) m = left-reserves sent_said B i out _ (send-left B i s x.log out)
  reserves-all (send_packet i s out) m = left-reserves sent_packet_said B i out _ (packet-left B i s x.log out)

  end-all : (c : BoxCall) → towards_above c ≡ false → (after x c).box.receiver ≡ B.receiver
  end-all (opening ss rs) m = clash true refl m
  end-all connect m = clash true refl m
  end-all (ask s content out) m = rw (ask-end B s content out) refl
  end-all (answer s p) m = clash true refl m
  end-all (receive p) m = clash true refl m
  end-all (login i s p content out) m = left-receiver login_said B i out _ (login-left B i s p content out)
  end-all (send i s out) m = left-receiver sent_said B i out _ (send-left B i s x.log out)
  end-all (send_packet i s out) m = left-receiver sent_packet_said B i out _ (packet-left B i s x.log out)

  stands : (b : Box) → b ≡ B → standing b x.log x.buffer ≡ x
  stands b q = ap (λ (y : Box). standing y x.log x.buffer) q

  pub refused_all : (c : BoxCall) → is_receiving c ≡ false → is_taken (shows x c).said ≡ false → after x c ≡ x
  refused_all (opening ss rs) m q = stands _ (open-refused B _ (open-left B ss rs) q)
  refused_all connect m q = clash true refl q
  refused_all (ask s content out) m q = stands _ (ask-end B s content out)
  refused_all (answer s p) m q = stands _ (answer-refused B s p x.log _ (answer-effect B s p x.log) q)
  refused_all (receive p) m q = clash true refl m
  refused_all (login i s p content out) m q =
      stands _ (left-refused login_said B i out _ (login-left B i s p content out) q)
  refused_all (send i s out) m q = stands _ (left-refused sent_said B i out _ (send-left B i s x.log out) q)
  refused_all (send_packet i s out) m q =
      stands _ (left-refused sent_packet_said B i out _ (packet-left B i s x.log out) q)

-- ─── The record ───

pub box-calls : BoxCalls
box-calls =
    record {
      shaped = shaped-all;
      seat-stays = seat-all;
      seats-empty = empty-all;
      day-stays = day-all;
      log-stays = log-all;
      buffer-stays = buffer-all;
      reserves-stay = reserves-all;
      end_stays = end-all;
      answer-others = λ x s p t h z.
          answer-beside x.box s p x.log _ (answer-effect x.box s p x.log) h t z;
      receive-others = λ x p t h z.
          receive-beside x.box p x.log x.buffer _ (receive-effect x.box p x.log x.buffer) h t z;
      answers = answer-as;
      receives = λ b p log buffer h. receive-as-end b p log buffer h;
      logs-in = λ b i s p content out h l. logs-in-as b i s h l p content out;
      sends = λ b i s log out h l. sends-as b i s h l log out;
      sends-packet = λ b i s log out h l. sends-packet-as b i s h l log out;
      no-login = λ b i s p content out l. no-login-as b i s l p content out;
      no-send = λ b i s log out l. no-send-as b i s l log out;
      no-packet = λ b i s log out l. no-packet-as b i s l log out;
      opening-short = opening-short-as;
      opening-as = opening-end;
      opening-reserves = opening-reserves-as;
      ask-stays = λ x s content out. stands x _ (ask-end x.box s content out);
      ask-as = ask-answer;
      connect-kept = λ x. rw (connect-end x.box) (connect-keeps x.box.receiver);
      connect-live = λ x t. rw (connect-end x.box) (connect-live x.box.receiver t);
      refused-stays = refused_all;
      refused-early = λ x p n f l g.
          early x.box p x.log x.buffer _ (receive-effect x.box p x.log x.buffer) n f l g;
      refused-late = λ x p n h f l.
          late x.box p x.log x.buffer _ (receive-effect x.box p x.log x.buffer) h n f l;
      refused-handed = λ x p n h f g.
          unpublished x.box p x.log x.buffer _ (receive-effect x.box p x.log x.buffer) h n f g;
      logged = logged-run;
      together = both-lines;
    }
