-- `DriverLaws` holds. Assumes nothing.
use Prim.Native.Nat.{ℕ, zero, suc}
use mathlib.Core.Path.{◌≡◌, refl, sym, ap, ◌∙◌}
use mathlib.Core.List.{List, [], ◌∷◌}
use mathlib.Core.Option.{Option, none, some}
use lib.ListN.{length, drop, get_elem?}
use Rattle.flow.specs.declared.sender.Sender.{Sender}
use Rattle.flow.specs.Types.{Opened}
use Rattle.flow.specs.Types.{Published}
use Rattle.flow.specs.Types.{LoggedIn}
use Rattle.flow.specs.declared.receiver.Receiver.{Receiver}
use Rattle.flow.specs.Types.{Requested}
use Rattle.flow.specs.Types.{Confirmed}
use Rattle.flow.specs.declared.receiver.Received.{Received}
use Rattle.flow.specs.declared.several.ReceivedSeveral.{ReceivedSeveral}
use Rattle.flow.specs.declared.several.PublishedSeveral.{PublishedSeveral}
use Rattle.flow.specs.Ends.{Left, Wrote, left, wrote}
use Rattle.flow.specs.Serving.{open_day_of, publish_of, login_of, send_of, send_packet_of}
use Rattle.flow.specs.Receiving.{open_end_of, connect_of, request_login_of, confirm_login_of, receive_of}
use Rattle.flow.specs.World.{Event, open_sender, publish, login, send, send_packet, open_receiver, connect, request_login}
use Rattle.flow.specs.World.{confirm_login, receive, Transmission, SenderSide, ReceiverSide, World, start, serves}
use Rattle.flow.specs.World.{receives, with, step}
use Rattle.flow.specs.World.{run, after_open, after_publish, after_login, after_send, after_send_packet, after_reopen}
use Rattle.flow.specs.World.{after_connect, after_request, after_confirm, after_receive}
use Rattle.flow.specs.Agreement.{CaughtUp, reported, published_on}
use Rattle.flow.specs.Several.{Told, end, short, stopped, Repeated, Took, several_of, receiving, publishing}
use Rattle.flow.specs.Several.{receive_several_of, publish_several_of}
use Rattle.flow.specs.Bufferful.{onward, calls}
use Rattle.flow.proofs.Agreement.{agreement}
use Rattle.flow.proofs.packets.Requests.{request-end}
use Rattle.exports.specs.declared.serving.FtdSender.{FtdSender}
use Rattle.exports.specs.declared.receiving.FtdReceiver.{FtdReceiver}
use Rattle.exports.specs.Serving.{sender_for}
use Rattle.exports.specs.Serving.{sent_numbers}
use Rattle.exports.specs.Receiving.{receiver_for}
use Rattle.exports.specs.Laws.{SenderIs, ReceiverIs}
use Rattle.exports.specs.Meaning.Calls.{sent_for}
use Rattle.exports.specs.Driver.{Served, Taken, opened_side, published_side, logged_in_side, sent_side}
use Rattle.exports.specs.Driver.{sent_packet_side, reopened_side, connected_side, requested_side, confirmed_side}
use Rattle.exports.specs.Driver.{received_side, Driver, driver, start_driver, serves_with, receives_with, given}
use Rattle.exports.specs.Driver.{driver_step, run_driver, Tells, calls_by, receive_several_with, publish_several_with}
use Rattle.exports.specs.Driver.{SameThrough, DriverLaws}
use Rattle.exports.proofs.Laws.{end-laws}
use Rattle.exports.proofs.Meaning.Calls.{answer-laws}
use Rattle.std.specs.Prelude.{None, Ok}
use Rattle.flow.specs.Types.{SendAnswer, PacketSent}

-- What a call left, from the end and the answer that its numbers say.
module _ {N E A : Type 0} (say : N → E) (n : N) (e : E) (h : say n ≡ e) where
  pub by_left : (call : E → Left E A) (l : N) (a : A) → say l ≡ (call e).end → a ≡ (call (say n)).answer
      → left (say l) a ≡ call e
  by_left call l a p q = rw (p, q, h) refl

  pub by-wrote : (call : E → Wrote E A) (l : N) (a : A) → say l ≡ (call e).end → a ≡ (call (say n)).answer
      → wrote (say l) a (call (say n)).bytes ≡ call e
  by-wrote call l a p q = rw (p, q, h) refl

-- ─── The calls of an end ───

-- A side that is told, and the numbers of its end.
pub record ServedTells (r : Served) (v : SenderSide) : Type 0 where
  pub side : r.side ≡ v
  pub numbers : SenderIs r.numbers v.end

pub record TakenTells (r : Taken) (v : ReceiverSide) : Type 0 where
  pub side : r.side ≡ v
  pub numbers : ReceiverIs r.numbers v.end

module _ (n : FtdSender) (v : SenderSide) (h : SenderIs n v.end) where
  pub open-tells : (date : ℕ) (ss rs : List ℕ)
      → ServedTells (opened_side n v date ss rs) (after_open v date (open_day_of v.end date ss rs v.log))
  open-tells date ss rs =
      let is = end-laws.open-day n v.end h date ss rs v.log in
      record {
        side =
            ap (λ (r : Left Sender Opened). after_open v date r)
            (by_left sender_for n v.end h.0 (λ (x : Sender). open_day_of x date ss rs v.log) _ _ is.0
            (answer-laws.day-opened (open_day_of (sender_for n) date ss rs v.log)));
        numbers = is;
      }

  pub publish-tells : (s tid : ℕ) (content : List ℕ)
      → ServedTells (published_side n v s tid content)
      (after_publish v s tid content (publish_of v.end s tid content v.log))
  publish-tells s tid content =
      let is = end-laws.publish n v.end h s tid content v.log in
      record {
        side =
            ap (λ (r : Wrote Sender Published). after_publish v s tid content r)
            (by-wrote sender_for n v.end h.0 (λ (x : Sender). publish_of x s tid content v.log) _ _ is.0
            (answer-laws.published (publish_of (sender_for n) s tid content v.log)));
        numbers = is;
      }

  pub login-tells : (s : ℕ) (p content out : List ℕ)
      → ServedTells (logged_in_side n v s p content out) (after_login v s (login_of v.end s p content out))
  login-tells s p content out =
      let is = end-laws.login n v.end h s p content out in
      record {
        side =
            ap (λ (r : Wrote Sender LoggedIn). after_login v s r)
            (by-wrote sender_for n v.end h.0 (λ (x : Sender). login_of x s p content out) _ _ is.0
            (answer-laws.logged-in (login_of (sender_for n) s p content out)));
        numbers = is;
      }

  pub send-tells : (s : ℕ) (out : List ℕ)
      → ServedTells (sent_side n v s out) (after_send v s (send_of v.end s v.log out))
  send-tells s out =
      let is = end-laws.send n v.end h s v.log out in
      record {
        side =
            ap (λ (r : Wrote Sender SendAnswer). after_send v s r)
            (by-wrote sender_for n v.end h.0 (λ (x : Sender). send_of x s v.log out) _ _ is.0
            (answer-laws.sent (send_of (sender_for n) s v.log out)));
        numbers = is;
      }

  pub packet-tells : (s : ℕ) (out : List ℕ)
      → ServedTells (sent_packet_side n v s out) (after_send_packet v s (send_packet_of v.end s v.log out))
  packet-tells s out =
      let is = end-laws.send-packet n v.end h s v.log out in
      record {
        side =
            ap (λ (r : Wrote Sender PacketSent). after_send_packet v s r)
            (by-wrote sender_for n v.end h.0 (λ (x : Sender). send_packet_of x s v.log out) _ _ is.0
            (answer-laws.sent-packet (send_packet_of (sender_for n) s v.log out)));
        numbers = is;
      }

module _ (m : FtdReceiver) (v : ReceiverSide) (k : ReceiverIs m v.end) where
  pub reopen-tells : (ss : List ℕ) → TakenTells (reopened_side m v ss) (after_reopen v (open_end_of v.end ss))
  reopen-tells ss =
      let is = end-laws.open-end m v.end k ss in
      record {
        side =
            ap (λ (r : Left Receiver Opened). after_reopen v r)
            (by_left receiver_for m v.end k.0 (λ (x : Receiver). open_end_of x ss) _ _ is.0
            (answer-laws.end-opened (open_end_of (receiver_for m) ss)));
        numbers = is;
      }

  pub connect-tells : TakenTells (connected_side m v) (after_connect v (connect_of v.end))
  connect-tells =
      let is = end-laws.connect m v.end k in
      record { side = ap (λ (x : Receiver). after_connect v x) is.0; numbers = is }

  pub request-tells : (s : ℕ) (content out : List ℕ)
      → TakenTells (requested_side m v s content out) (after_request v (request_login_of v.end s content out))
  request-tells s content out =
      let stays = k.0 ∙ sym (request-end v.end s content out) in
      record {
        side =
            ap (λ (r : Wrote Receiver Requested). after_request v r)
            (by-wrote receiver_for m v.end k.0 (λ (x : Receiver). request_login_of x s content out) _ _ stays
            (answer-laws.requested _));
        numbers = (stays, k.1);
      }

  pub confirm-tells : (s : ℕ) (p : List ℕ)
      → TakenTells (confirmed_side m v s p) (after_confirm v s p (confirm_login_of v.end s p))
  confirm-tells s p =
      let is = end-laws.confirm m v.end k s p in
      record {
        side =
            ap (λ (r : Left Receiver Confirmed). after_confirm v s p r)
            (by_left receiver_for m v.end k.0 (λ (x : Receiver). confirm_login_of x s p) _ _ is.0
            (answer-laws.confirmed (confirm_login_of (receiver_for m) s p)));
        numbers = is;
      }

  pub receive-tells : (t : Transmission) (i j : ℕ) (p : List ℕ)
      → TakenTells (received_side m v t i j p) (after_receive v t i j p (receive_of v.end p v.buffer))
  receive-tells t i j p =
      let is = end-laws.receive m v.end k p v.buffer in
      record {
        side =
            ap (λ (r : Wrote Receiver Received). after_receive v t i j p r)
            (by-wrote receiver_for m v.end k.0 (λ (x : Receiver). receive_of x p v.buffer) _ _ is.0
            (answer-laws.received (receive_of (receiver_for m) p v.buffer)));
        numbers = is;
      }

-- ─── One event ───

module _ (n : FtdSender) (m : FtdReceiver) (w : World) (h : SenderIs n w.serving.end)
    (k : ReceiverIs m w.receiving.end) where
  serving : (r : Served) (v : SenderSide) → ServedTells r v → Tells (serves_with (driver n m w) r) (serves w v)
  serving r v t =
      record { world = ap (λ (x : SenderSide). serves w x) t.side; sender = t.numbers; receiver = k }

  taking : (r : Taken) (v : ReceiverSide) → TakenTells r v → Tells (receives_with (driver n m w) r) (receives w v)
  taking r v t =
      record { world = ap (λ (x : ReceiverSide). receives w x) t.side; sender = h; receiver = t.numbers }

  -- What is named on the line is there for both, or for neither.
  named : {A : Type 0} (o : Option A) (f : A → Driver) (g : A → World) → ((x : A) → Tells (f x) (g x))
      → Tells (given (driver n m w) o f) (with w o g)
  named none f g t = record { world = refl; sender = h; receiver = k }
  named (some x) f g t = t x

  tells-step : (e : Event) → Tells (driver_step (driver n m w) e) (step w e)
  tells-step (open_sender date ss rs) = serving _ _ (open-tells n w.serving h date ss rs)
  tells-step (publish s tid content) = serving _ _ (publish-tells n w.serving h s tid content)
  tells-step (login s i content out) = named (get_elem? w.receiving.requests i) _ _ λ p.
      serving _ _ (login-tells n w.serving h s p content out)
  tells-step (send s out) = serving _ _ (send-tells n w.serving h s out)
  tells-step (send_packet s out) = serving _ _ (packet-tells n w.serving h s out)
  tells-step (open_receiver ss) = taking _ _ (reopen-tells m w.receiving k ss)
  tells-step connect = taking _ _ (connect-tells m w.receiving k)
  tells-step (request_login s content out) = taking _ _ (request-tells m w.receiving k s content out)
  tells-step (confirm_login i) = named (get_elem? w.serving.answers i) _ _ λ a.
      taking _ _ (confirm-tells m w.receiving k a.series a.what)
  tells-step (receive i j) =
      named (get_elem? w.serving.transmissions i) _ _ λ t. named (get_elem? t.packets j) _ _ λ p.
      taking _ _ (receive-tells m w.receiving k t i j p)

-- ─── Every list of events ───

tells-one : (d : Driver) (w : World) → Tells d w → (e : Event) → Tells (driver_step d e) (step w e)
tells-one d w t e =
    rw (sym t.world)
    (tells-step d.sender d.receiver d.told (rw t.world t.sender) (rw t.world t.receiver) e)

tells-run : (es : List Event) (d : Driver) (w : World) → Tells d w → Tells (run_driver d es) (run w es)
tells-run [] d w t = t
tells-run (e ∷ es) d w t = tells-run es (driver_step d e) (step w e) (tells-one d w t e)

tells-start : (log buffer : List ℕ) → Tells (start_driver log buffer) (start log buffer)
unfolding start_driver start
tells-start log buffer =
    record { world = refl; sender = end-laws.fresh-sender; receiver = end-laws.fresh-receiver }

tells : (log buffer : List ℕ) (es : List Event)
    → Tells (run_driver (start_driver log buffer) es) (run (start log buffer) es)
tells log buffer es = tells-run es (start_driver log buffer) (start log buffer) (tells-start log buffer)

-- Demand 3, of the world that is told.
complete : (log buffer : List ℕ) (es fs : List Event) (e : Event) (s d : ℕ) (a out : List ℕ) →
    let u = run_driver (start_driver log buffer) es in
    let v = driver_step u e in
    let w = run_driver v fs in
    CaughtUp u.told v.told w.told s d a out → reported w.told s d ≡ length (published_on w.told s d)
complete log buffer es fs e s d a out c =
    let at-u = tells log buffer es in
    let at-v = tells-one _ _ at-u e in
    let at-w = tells-run fs _ _ at-v in
    rw at-w.world
    (agreement.complete log buffer es fs e s d a out (rw (at-u.world, at-v.world, at-w.world) at c))

-- An answer 0 of Send is none.
drained : (x : Wrote Sender SendAnswer) → (sent_numbers x).answer ≡ 0 → x.answer ≡ (Ok None)
unfolding sent_for
drained x h = sym (answer-laws.sent x) ∙ rw h refl

none_left : (log buffer : List ℕ) (es : List Event) (s : ℕ) (out : List ℕ) →
    let d = run_driver (start_driver log buffer) es in
    let v = d.told.serving in
    (sent_numbers (send_of (sender_for d.sender) s v.log out)).answer ≡ 0
    → (send_of v.end s v.log out).answer ≡ (Ok None)
none_left log buffer es s out h =
    let d = run_driver (start_driver log buffer) es in
    let t = tells log buffer es in
    let same : sender_for d.sender ≡ d.told.serving.end =
    t.sender.0 ∙ sym (ap (λ (w : World). w.serving.end) t.world) in
    rw same at (drained (send_of (sender_for d.sender) s d.told.serving.log out) h)

-- ─── A bufferful ───

module _ {N E A B : Type 0} (R : Repeated E A B) (Is : N → E → Type 0) (call : N → List ℕ → List ℕ → Took N B)
    (ends : (n : N) (e : E) (bytes l : List ℕ) → Is n e → Is (call n bytes l).end (several_of R e bytes l).end)
    (same : (n : N) (e : E) (bytes l : List ℕ) → Is n e → ((call n bytes l).answer ≡ (several_of R e bytes l).answer)
    × ((call n bytes l).bytes ≡ (several_of R e bytes l).bytes) × ((call n bytes l).taken ≡ (several_of R e bytes l).taken))
  where
    -- One call, by its answer: through, or on with what was not taken, of which it is known.
    by-told : (most : ℕ) (bytes : List ℕ)
        → ((n : N) (e : E) → Is n e → (rest l : List ℕ)
        → SameThrough Is (calls_by call R.told most n rest l) (calls most R e rest l))
        → (x : Took N B) (y : Took E B) → Is x.end y.end → x.bytes ≡ y.bytes → x.taken ≡ y.taken → (t : Told)
        → SameThrough Is (onward (calls_by call R.told most) bytes x t) (onward (calls most R) bytes y t)
    by-told most bytes more x y i p q end =
        record { end = i; bytes = p; rest = ap (λ (k : ℕ). drop k bytes) q; answers = refl }
    by-told most bytes more x y i p q (short n) =
        record { end = i; bytes = p; rest = ap (λ (k : ℕ). drop k bytes) q; answers = refl }
    by-told most bytes more x y i p q (stopped a) =
        let on = more x.end y.end i (drop y.taken bytes) y.bytes in
        rw (p, q)
        (record {
          end = on.end;
          bytes = on.bytes;
          rest = on.rest;
          answers = ap (λ (l : List Told). stopped a ∷ l) on.answers;
        })

    turn : (most : ℕ) (bytes : List ℕ)
        → ((n : N) (e : E) → Is n e → (rest l : List ℕ)
        → SameThrough Is (calls_by call R.told most n rest l) (calls most R e rest l))
        → (x : Took N B) (y : Took E B) → Is x.end y.end → x.bytes ≡ y.bytes → x.taken ≡ y.taken
        → (t u : Told) → t ≡ u
        → SameThrough Is (onward (calls_by call R.told most) bytes x t) (onward (calls most R) bytes y u)
    turn most bytes more x y i p q t u same = rw same (by-told most bytes more x y i p q u)

    told_same : (bytes : List ℕ) (x : Took N B) (y : Took E B) → x.bytes ≡ y.bytes → x.answer ≡ y.answer
        → R.told bytes x.bytes x.answer ≡ R.told bytes y.bytes y.answer
    told_same bytes x y p q = rw (p, q) refl

    pub through : (most : ℕ) (n : N) (e : E) → Is n e → (bytes l : List ℕ)
        → SameThrough Is (calls_by call R.told most n bytes l) (calls most R e bytes l)
    through zero n e h bytes l = record { end = h; bytes = refl; rest = refl; answers = refl }
    through (suc most) n e h bytes l =
        let q = same n e bytes l h in
        let x = call n bytes l in
        let y = several_of R e bytes l in
        turn most bytes (through most) x y (ends n e bytes l h) q.1 q.2 (R.told bytes x.bytes x.answer)
        (R.told bytes y.bytes y.answer) (told_same bytes x y q.1 q.0)

-- The two calls for several: what they leave, read off their numbers.
receive-same : (n : FtdReceiver) (e : Receiver) (bytes l : List ℕ) → ReceiverIs n e →
    let x = receive_several_with n bytes l in
    let y = receive_several_of e bytes l in
    (x.answer ≡ y.answer) × (x.bytes ≡ y.bytes) × (x.taken ≡ y.taken)
receive-same n e bytes l h =
    let x = receive_several_of (receiver_for n) bytes l in
    let same = ap (λ (z : Receiver). receive_several_of z bytes l) h.0 in (
      answer-laws.received-several x ∙ ap (λ (z : Took Receiver ReceivedSeveral). z.answer) same,
      ap (λ (z : Took Receiver ReceivedSeveral). z.bytes) same,
      answer-laws.packets-taken x ∙ ap (λ (z : Took Receiver ReceivedSeveral). z.taken) same,
    )

publish-same : (n : FtdSender) (e : Sender) (bytes l : List ℕ) → SenderIs n e →
    let x = publish_several_with n bytes l in
    let y = publish_several_of e bytes l in
    (x.answer ≡ y.answer) × (x.bytes ≡ y.bytes) × (x.taken ≡ y.taken)
publish-same n e bytes l h =
    let x = publish_several_of (sender_for n) bytes l in
    let same = ap (λ (z : Sender). publish_several_of z bytes l) h.0 in (
      answer-laws.published-several x ∙ ap (λ (z : Took Sender PublishedSeveral). z.answer) same,
      ap (λ (z : Took Sender PublishedSeveral). z.bytes) same,
      answer-laws.records-taken x ∙ ap (λ (z : Took Sender PublishedSeveral). z.taken) same,
    )

pub driver-laws : DriverLaws
driver-laws =
    record {
      tells = tells;
      safe = λ log buffer es s d. rw (tells log buffer es).world (agreement.safe log buffer es s d);
      dated = λ log buffer es. rw (tells log buffer es).world (agreement.dated log buffer es);
      sent = λ log buffer es. rw (tells log buffer es).world (agreement.sent log buffer es);
      complete = complete;
      none_left = none_left;
      packets = λ n e h most bytes buffer.
          through receiving ReceiverIs receive_several_with
          (λ n e bytes l h. end-laws.receive-several n e h bytes l) receive-same most n e h bytes buffer;
      records = λ n e h most bytes log.
          through publishing SenderIs publish_several_with
          (λ n e bytes l h. end-laws.publish-several n e h bytes l) publish-same most n e h bytes log;
    }
