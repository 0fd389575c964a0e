-- Seats don't touch each other: two boxes that differ in other seats alone show the same to seat i and towards above, and
-- go on so. Assumes nothing.
use Prim.Native.Nat.{ℕ, zero, suc}
use native.Mathlib.Omega.{arith}
use mathlib.Core.Path.{◌≡◌, refl, ap, sym, ◌∙◌}
use mathlib.Core.List.{List, [], ◌∷◌}
use mathlib.Core.Bool.{Bool, true, false, cond, not}
use borrow.Author.Tests.{eqb-true, eqb-false, not-false, not-true}
use lib.ListN.{length, get_or, set, length-set}
use lib.Seq.{get_or-set_other}
use lib.Dec.{eqb}
use Rattle.ftd.specs.Packet.{dated_of}
use Rattle.flow.specs.declared.sender.Day.{Day}
use Rattle.flow.specs.declared.sender.Seat.{Seat}
use Rattle.flow.specs.declared.receiver.Receiver.{Receiver}
use Rattle.flow.specs.Types.{Confirmed}
use Rattle.flow.specs.declared.receiver.Received.{Received}
use Rattle.flow.specs.Ends.{Left, Wrote}
use Rattle.flow.specs.Answers.{confirmed_said}
use Rattle.flow.specs.Receiving.{confirm_login_of, receive_of}
use Rattle.flow.specs.World.{series_in}
use Rattle.flow.proofs.common.Bools.{clash}
use Rattle.relay.specs.Box.{no_seat, box, no_such_seat, AnswerWay, ReceiveWay, answer_way, answer_by, answer_of}
use Rattle.relay.specs.Box.{receive_way, receive_by, receive_box_of, open_box_of, connect_box_of, ask_of, login_seat_of}
use Rattle.relay.specs.Box.{send_seat_of, send_packet_seat_of}
use Rattle.relay.specs.Seats.{BoxCall, opening, connect, ask, answer, receive, login, send, send_packet, Standing}
use Rattle.relay.specs.Seats.{standing}
use Rattle.relay.specs.Seats.{Shown, shown, after, shows, elsewhere, without, after_all, shows_all, SameFor, Independence}

-- ─── A list with one place set ───

set-alike : {A : Type 0} (d x : A) (l k : List A) (i : ℕ) → length l ≡ length k → get_or l i d ≡ get_or k i d
    → get_or (set l i x) i d ≡ get_or (set k i x) i d
set-alike d x [] [] i n q = refl
set-alike d x [] (b ∷ k) i n q = absurd (omega arith)
set-alike d x (a ∷ l) [] i n q = absurd (omega arith)
set-alike d x (a ∷ l) (b ∷ k) zero n q = refl
set-alike d x (a ∷ l) (b ∷ k) (suc i) n q = set-alike d x l k i (omega arith) q

-- ─── Alike but for other seats ───

data Alike (i : ℕ) : Standing → Standing → Type 0 where
  alike : (R : Receiver) (N : List ℕ) (D : Day) (S Z : List Seat) (log buffer : List ℕ) → length S ≡ length Z
      → get_or S i no_seat ≡ get_or Z i no_seat
      → Alike i (standing (box R N D S) log buffer) (standing (box R N D Z) log buffer)

alike_same : (i : ℕ) (x : Standing) → Alike i x x
alike_same i x = alike x.box.receiver x.box.reserves x.box.day x.box.seats x.box.seats x.log x.buffer refl refl

alike-for : (i : ℕ) (x y : Standing) → Alike i x y → SameFor i x y
alike-for i x y (alike R N D S Z log buffer n q) =
    record { receiver = refl; reserves = refl; day = refl; seat = q; log = refl; buffer = refl }

-- ─── Towards above: no seat is looked at ───

module _ (i : ℕ) (R : Receiver) (N : List ℕ) (D : Day) (S Z : List Seat) (log buffer : List ℕ) (n : length S ≡ length Z)
    (q : get_or S i no_seat ≡ get_or Z i no_seat) where
  answer-ways : (s : ℕ) (p : List ℕ) → answer_way (box R N D S) s p log ≡ answer_way (box R N D Z) s p log
  unfolding answer_way
  answer-ways s p = refl

  answer-after : (r : Left Receiver Confirmed) (y : AnswerWay)
      → Alike i (standing (answer_by (box R N D S) r y).end log buffer) (standing (answer_by (box R N D Z) r y).end log buffer)
  answer-after r AnswerWay.late = alike R N D S Z log buffer n q
  answer-after r (AnswerWay.refuses x) = alike R N D S Z log buffer n q
  answer-after r AnswerWay.through = alike r.end N D S Z log buffer n q
  answer-after r (AnswerWay.opens z) = alike r.end N z.end.day _ _ log buffer refl refl

  answer-said : (r : Left Receiver Confirmed) (y : AnswerWay)
      → (answer_by (box R N D S) r y).answer ≡ (answer_by (box R N D Z) r y).answer
  answer-said r AnswerWay.late = refl
  answer-said r (AnswerWay.refuses x) = refl
  answer-said r AnswerWay.through = refl
  answer-said r (AnswerWay.opens z) = refl

  receive-ways : (p : List ℕ) → receive_way (box R N D S) p log buffer ≡ receive_way (box R N D Z) p log buffer
  unfolding receive_way
  receive-ways p = refl

  receive-after : (s : ℕ) (r : Wrote Receiver Received) (y : ReceiveWay) →
      let a = receive_by (box R N D S) s log buffer r y in
      let b = receive_by (box R N D Z) s log buffer r y in
      Alike i (standing a.end a.log a.buffer) (standing b.end b.log b.buffer)
  receive-after s r ReceiveWay.late = alike _ N D S Z log buffer n q
  receive-after s r (ReceiveWay.refuses x) = alike _ N D S Z log buffer n q
  receive-after s r ReceiveWay.through = alike r.end N D S Z log r.bytes n q
  receive-after s r (ReceiveWay.publishes m z) = alike r.end N z.end.day S Z z.bytes r.bytes n q

  receive-said : (s : ℕ) (r : Wrote Receiver Received) (y : ReceiveWay) →
      let a = receive_by (box R N D S) s log buffer r y in
      let b = receive_by (box R N D Z) s log buffer r y in
      (a.answer ≡ b.answer) × (a.buffer ≡ b.buffer)
  receive-said s r ReceiveWay.late = (refl, refl)
  receive-said s r (ReceiveWay.refuses x) = (refl, refl)
  receive-said s r ReceiveWay.through = (refl, refl)
  receive-said s r (ReceiveWay.publishes m z) = (refl, refl)

  -- ─── Each call that is not another seat's ───

  abbrev x : Standing
  x = standing (box R N D S) log buffer

  abbrev y : Standing
  y = standing (box R N D Z) log buffer

  set_after : (X : Seat)
      → Alike i (standing (box R N D (set S i X)) log buffer) (standing (box R N D (set Z i X)) log buffer)
  set_after X =
      alike R N D (set S i X) (set Z i X) log buffer (length-set S i X ∙ n ∙ sym (length-set Z i X))
      (set-alike no_seat X S Z i n q)

  -- Of seat i.
  login-alike : (b : Bool) (s : ℕ) (p content out : List ℕ) → no_such_seat i ≡ b
      → Alike i (after x (login i s p content out)) (after y (login i s p content out))
      × (shows x (login i s p content out) ≡ shows y (login i s p content out))
  unfolding login_seat_of
  login-alike true s p content out f = rw f (alike R N D S Z log buffer n q, refl)
  login-alike false s p content out f = rw (f, q) (set_after _, refl)

  send-alike : (b : Bool) (s : ℕ) (out : List ℕ) → no_such_seat i ≡ b
      → Alike i (after x (send i s out)) (after y (send i s out))
      × (shows x (send i s out) ≡ shows y (send i s out))
  unfolding send_seat_of
  send-alike true s out f = rw f (alike R N D S Z log buffer n q, refl)
  send-alike false s out f = rw (f, q) (set_after _, refl)

  packet-alike : (b : Bool) (s : ℕ) (out : List ℕ) → no_such_seat i ≡ b
      → Alike i (after x (send_packet i s out)) (after y (send_packet i s out))
      × (shows x (send_packet i s out) ≡ shows y (send_packet i s out))
  unfolding send_packet_seat_of
  packet-alike true s out f = rw f (alike R N D S Z log buffer n q, refl)
  packet-alike false s out f = rw (f, q) (set_after _, refl)

  -- Opening.
  open-alike : (b : Bool) (ss rs : List ℕ) → not (eqb (length rs) (length ss)) ≡ b
      → Alike i (after x (opening ss rs)) (after y (opening ss rs)) × (shows x (opening ss rs) ≡ shows y (opening ss rs))
  unfolding open_box_of
  open-alike true ss rs f = rw f (alike R N D S Z log buffer n q, refl)
  open-alike false ss rs f = rw f (alike _ _ D S Z log buffer n q, refl)

  call-alike : (c : BoxCall) → elsewhere i c ≡ false → Alike i (after x c) (after y c) × (shows x c ≡ shows y c)
  unfolding connect_box_of ask_of answer_of receive_box_of
  call-alike (opening ss rs) e = open-alike (not (eqb (length rs) (length ss))) ss rs refl
  call-alike connect e = (alike _ N D S Z log buffer n q, refl)
  call-alike (ask s content out) e = (alike _ N D S Z log buffer n q, refl)
  call-alike (answer s p) e =
      rw (answer-ways s p) (
        answer-after (confirm_login_of R s p) (answer_way (box R N D Z) s p log),
        ap (λ (a : Confirmed). shown (confirmed_said a) [])
            (answer-said (confirm_login_of R s p) (answer_way (box R N D Z) s p log)),
      )
  call-alike (receive p) e =
      let r = receive_of R p buffer in
      let s = series_in (dated_of p).packet in
      let way = receive_way (box R N D Z) p log buffer in
      let z = receive-said s r way in
      rw (receive-ways p) (receive-after s r way, rw (z.0, z.1))
  call-alike (login j s p content out) e =
      let f : j ≡ i = eqb-true j i (not-false (eqb j i) e) in rw f (login-alike (no_such_seat i) s p content out refl)
  call-alike (send j s out) e =
      let f : j ≡ i = eqb-true j i (not-false (eqb j i) e) in rw f (send-alike (no_such_seat i) s out refl)
  call-alike (send_packet j s out) e =
      let f : j ≡ i = eqb-true j i (not-false (eqb j i) e) in rw f (packet-alike (no_such_seat i) s out refl)

  -- ─── A call of another seat ───

  skip-set : (j : ℕ) → (j ≡ i → ⊥) → (X : Seat) → Alike i (standing (box R N D (set S j X)) log buffer) y
  skip-set j o X =
      alike R N D (set S j X) Z log buffer (length-set S j X ∙ n)
      (get_or-set_other S j i X no_seat (λ e. o (sym e)) ∙ q)

  skip-login : (j : ℕ) → (j ≡ i → ⊥) → (b : Bool) → no_such_seat j ≡ b → (s : ℕ) (p content out : List ℕ)
      → Alike i (after x (login j s p content out)) y
  unfolding login_seat_of
  skip-login j o true f s p content out = rw f (alike R N D S Z log buffer n q)
  skip-login j o false f s p content out = rw f (skip-set j o _)

  skip-send : (j : ℕ) → (j ≡ i → ⊥) → (b : Bool) → no_such_seat j ≡ b → (s : ℕ) (out : List ℕ)
      → Alike i (after x (send j s out)) y
  unfolding send_seat_of
  skip-send j o true f s out = rw f (alike R N D S Z log buffer n q)
  skip-send j o false f s out = rw f (skip-set j o _)

  skip-packet : (j : ℕ) → (j ≡ i → ⊥) → (b : Bool) → no_such_seat j ≡ b → (s : ℕ) (out : List ℕ)
      → Alike i (after x (send_packet j s out)) y
  unfolding send_packet_seat_of
  skip-packet j o true f s out = rw f (alike R N D S Z log buffer n q)
  skip-packet j o false f s out = rw f (skip-set j o _)

  call-skips : (c : BoxCall) → elsewhere i c ≡ true → Alike i (after x c) y
  call-skips (opening ss rs) e = clash _ e refl
  call-skips connect e = clash _ e refl
  call-skips (ask s content out) e = clash _ e refl
  call-skips (answer s p) e = clash _ e refl
  call-skips (receive p) e = clash _ e refl
  call-skips (login j s p content out) e =
      skip-login j (eqb-false j i (not-true (eqb j i) e)) (no_such_seat j) refl s p content out
  call-skips (send j s out) e = skip-send j (eqb-false j i (not-true (eqb j i) e)) (no_such_seat j) refl s out
  call-skips (send_packet j s out) e = skip-packet j (eqb-false j i (not-true (eqb j i) e)) (no_such_seat j) refl s out

alike-call : (i : ℕ) (x y : Standing) → Alike i x y → (c : BoxCall) → elsewhere i c ≡ false
    → Alike i (after x c) (after y c) × (shows x c ≡ shows y c)
alike-call i x y (alike R N D S Z log buffer n q) c e = call-alike i R N D S Z log buffer n q c e

alike-skips : (i : ℕ) (x y : Standing) → Alike i x y → (c : BoxCall) → elsewhere i c ≡ true → Alike i (after x c) y
alike-skips i x y (alike R N D S Z log buffer n q) c e = call-skips i R N D S Z log buffer n q c e

-- ─── Every list ───

shown-alike : (i : ℕ) (cs : List BoxCall) (x y : Standing) → Alike i x y → shows_all i x cs ≡ shows_all i y (without i cs)
shown-alike i [] x y a = refl
shown-alike i (c ∷ cs) x y a = go (elsewhere i c) refl (λ x y. shown-alike i cs x y)
  where
    go : (b : Bool) → elsewhere i c ≡ b
        → ((x y : Standing) → Alike i x y → shows_all i x cs ≡ shows_all i y (without i cs))
        → cond b (shows_all i (after x c) cs) (shows x c ∷ shows_all i (after x c) cs)
        ≡ shows_all i y (cond b (without i cs) (c ∷ without i cs))
    go true e ih = ih (after x c) y (alike-skips i x y a c e)
    go false e ih =
        let z = alike-call i x y a c e in
        rw e (ap (λ (s : Shown). s ∷ shows_all i (after x c) cs) z.1
        ∙ ap (λ (l : List Shown). shows y c ∷ l) (ih (after x c) (after y c) z.0))

after-alike : (i : ℕ) (cs : List BoxCall) (x y : Standing) → Alike i x y
    → Alike i (after_all x cs) (after_all y (without i cs))
after-alike i [] x y a = a
after-alike i (c ∷ cs) x y a = go (elsewhere i c) refl (λ x y. after-alike i cs x y)
  where
    go : (b : Bool) → elsewhere i c ≡ b
        → ((x y : Standing) → Alike i x y → Alike i (after_all x cs) (after_all y (without i cs)))
        → Alike i (after_all (after x c) cs) (after_all y (cond b (without i cs) (c ∷ without i cs)))
    go true e ih = ih (after x c) y (alike-skips i x y a c e)
    go false e ih = ih (after x c) (after y c) (alike-call i x y a c e).0

pub independence : Independence
independence =
    record {
      shown = λ i x cs. shown-alike i cs x x (alike_same i x);
      after = λ i x cs.
          alike-for i (after_all x cs) (after_all x (without i cs)) (after-alike i cs x x (alike_same i x));
    }
