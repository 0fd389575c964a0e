-- `RefusalsLeave`: what a refused call of the box leaves. Assumes nothing.
use Prim.Native.Nat.{ℕ}
use native.Mathlib.Omega.{arith}
use mathlib.Core.Path.{◌≡◌, refl, ap, sym, ◌∙◌}
use mathlib.Core.List.{List, []}
use mathlib.Core.Logic.{inl, inr}
use mathlib.Core.Bool.{Bool, true, false}
use borrow.Author.Tests.{le-leb, lt-leb}
use lib.ListN.{set}
use lib.Dec.{leb}
use Rattle.ftd.specs.Refusal.{number_of}
use Rattle.flow.specs.Types.{LoggedIn}
use Rattle.flow.specs.declared.receiver.Kept.{Kept}
use Rattle.flow.specs.declared.receiver.Receiver.{Receiver}
use Rattle.flow.specs.Types.{Requested}
use Rattle.flow.specs.declared.receiver.Received.{Received}
use Rattle.flow.specs.Ends.{Wrote, index_of, is_open, kept_series, with_series, logged_in}
use Rattle.flow.specs.Answers.{Said, refused, is_taken, message_in, opened_said, requested_said, confirmed_said, received_said}
use Rattle.flow.specs.Answers.{login_said, sent_said, sent_packet_said}
use Rattle.flow.specs.Receiving.{confirm_login_of, dropped}
use Rattle.flow.proofs.common.Bools.{clash, or-neither}
use Rattle.flow.proofs.packets.Requests.{by-request}
use Rattle.relay.specs.declared.relay.Relay.{Relay}
use Rattle.relay.specs.declared.relay.OpenStep.{OpenStep}
use Rattle.relay.specs.declared.relay.ConfirmStep.{ConfirmStep}
use Rattle.relay.specs.declared.relay.ReceiveStep.{ReceiveStep}
use Rattle.relay.specs.State.{Box, box_for}
use Rattle.relay.specs.Box.{with_receiver, AnswerWay, answer_way, answer_by, Relayed, open_box_of, ask_of}
use Rattle.relay.specs.Box.{answer_of, receive_box_of}
use Rattle.relay.specs.Seats.{BoxCall, opening, connect, ask, answer, receive, login, send, send_packet, Standing}
use Rattle.relay.specs.Seats.{standing, shows}
use Rattle.relay.specs.Calls.{Shaped, any, borne, end_says, OnlyChain, left_by}
use Rattle.relay.specs.Promises.{answered_numbers, OpensBox, AsksBox, ConfirmsBox, ReceivesBox, LogsInSeat, SendsSeat}
use Rattle.relay.specs.Promises.{SendsPacketSeat}
use Rattle.relay.specs.Bufferful.{logged}
use Rattle.relay.specs.Refusals.{output_before, output_after, drops_chain, cleared, ChainAlone, RefusalsLeave}
use Rattle.relay.proofs.Bufferful.{box-bufferful}
use Rattle.relay.proofs.Ways.{AnswerDone, comes-late, not_taken, same-day, not_opened, opened, answer-done}
use Rattle.relay.proofs.Effects.{dropped-kept, answer-effect, ReceiveEffect, receive-effect, Small}
use Rattle.relay.proofs.CallsAs.{only-chain}
use Rattle.relay.proofs.BoxCalls.{SeatLeft, rested, moved, login-left, send-left, packet-left, wrote-taken}
use Rattle.relay.proofs.BoxCalls.{open-left, open-refused, answer-refused, same_number, small-refused, refused_all}
use Rattle.std.specs.Prelude.{Some, None, Ok, Err}
use Rattle.flow.specs.Types.{SendAnswer, PacketSent}

-- ─── Outputs ───

left-bytes : {A : Type 0} (said : A → Said) (b : Box) (i : ℕ) (out : List ℕ) (r : Wrote Box A) → SeatLeft said b i out r
    → is_taken (said r.answer) ≡ false → r.bytes ≡ out
left-bytes said b i out r (rested a) q = refl
left-bytes said b i out r (moved X a bytes w) q = clash (is_taken (said a)) (wrote-taken (said a) w) q

ask-bytes : (b : Box) (s : ℕ) (content out : List ℕ) → is_taken (requested_said (ask_of b s content out).answer) ≡ false
    → (ask_of b s content out).bytes ≡ out
unfolding ask_of
ask-bytes b s content out =
    by-request b.receiver s content out
    (λ (w : Wrote Receiver Requested). is_taken (requested_said w.answer) ≡ false → w.bytes ≡ out) (λ r q. refl)
    λ a q. clash true refl q

output-all : (x : Standing) (c : BoxCall) → is_taken (shows x c).said ≡ false → output_after x c ≡ output_before c
output-all x (opening ss rs) q = refl
output-all x connect q = refl
output-all x (ask s content out) q = ask-bytes x.box s content out q
output-all x (answer s p) q = refl
output-all x (receive p) q = refl
output-all x (login i s p content out) q =
    left-bytes login_said x.box i out _ (login-left x.box i s p content out) q
output-all x (send i s out) q = left-bytes sent_said x.box i out _ (send-left x.box i s x.log out) q
output-all x (send_packet i s out) q =
    left-bytes sent_packet_said x.box i out _ (packet-left x.box i s x.log out) q

-- ─── Receive ───

dropped-cleared : (e : Receiver) (s : ℕ) → is_open e s ≡ true → dropped e s ≡ cleared e s
unfolding with_series
dropped-cleared e s o =
    ap (λ (k : Kept). record { kept = k; live = record { series = set e.live.series (index_of s (kept_series e)) logged_in } })
    (dropped-kept e s o)

module _ (b : Box) (p log buffer : List ℕ) where
  abbrev R : Relayed → Type 0
  R = ReceiveEffect b p log buffer

  abbrev X : Standing
  X = standing b log buffer

  abbrev Refused : Relayed → ℕ → Type 0
  Refused r n = received_said p r.buffer r.answer ≡ refused n

  rests-all : (r : Relayed) → R r → (n : ℕ) → Refused r n → drops_chain b p buffer n ≡ false → left_by r ≡ X
  rests-all r (ReceiveEffect.rests a q m) n f g = refl
  rests-all r (ReceiveEffect.drops o x (inl m)) n f g =
      let z = same_number b p log buffer (number_of x) n f in
      clash (leb 15 n) (le-leb 15 n (omega arith)) (or-neither (leb 15 n) _ g).0
  rests-all r (ReceiveEffect.drops o x (inr m)) n f g =
      clash (any (message_in (end_says b p buffer))) m (or-neither (leb 15 n) _ g).1
  rests-all r (ReceiveEffect.again o k) n f g = let z : ◌≡◌ {A = ℕ} 0 1 = cc in absurd (omega arith)
  rests-all r (ReceiveEffect.holds o last live k bytes) n f g = let z : ◌≡◌ {A = ℕ} 0 1 = cc in absurd (omega arith)
  rests-all r (ReceiveEffect.hands o last live k tid origin at bytes day more) n f g =
      let z : ◌≡◌ {A = ℕ} 0 1 = cc in absurd (omega arith)

  -- Where nothing changed, the number is below 15 and no message was handed on.
  rests-early : (a : Received) → Small a → (n : ℕ) → received_said p buffer a ≡ refused n
      → message_in (end_says b p buffer) ≡ [] → drops_chain b p buffer n ≡ false
  rests-early a q n f m =
      let z = small-refused b p log buffer a q n f in
      rw (m, lt-leb 15 n z) refl

  clears-all : (r : Relayed) → R r → (n : ℕ) → Refused r n → drops_chain b p buffer n ≡ true
      → ChainAlone X (left_by r) (borne p)
  clears-all r (ReceiveEffect.rests a q m) n f g = clash (drops_chain b p buffer n) g (rests-early a q n f m)
  clears-all r (ReceiveEffect.drops o x m) n f g =
      record {
        was-open = o.0;
        was-in = o.1;
        stays =
            ap (λ (e : Receiver). standing (with_receiver b e) log buffer)
            (dropped-cleared b.receiver (borne p) o.0);
      }
  clears-all r (ReceiveEffect.again o k) n f g = let z : ◌≡◌ {A = ℕ} 0 1 = cc in absurd (omega arith)
  clears-all r (ReceiveEffect.holds o last live k bytes) n f g = let z : ◌≡◌ {A = ℕ} 0 1 = cc in absurd (omega arith)
  clears-all r (ReceiveEffect.hands o last live k tid origin at bytes day more) n f g =
      let z : ◌≡◌ {A = ℕ} 0 1 = cc in absurd (omega arith)

  others-all : (r : Relayed) → R r → Shaped b → (n : ℕ) → Refused r n → drops_chain b p buffer n ≡ true
      → OnlyChain X (left_by r) (borne p)
  others-all r (ReceiveEffect.rests a q m) h n f g = clash (drops_chain b p buffer n) g (rests-early a q n f m)
  others-all r (ReceiveEffect.drops o x m) h n f g = only-chain b (borne p) log buffer h o
  others-all r (ReceiveEffect.again o k) h n f g = let z : ◌≡◌ {A = ℕ} 0 1 = cc in absurd (omega arith)
  others-all r (ReceiveEffect.holds o last live k bytes) h n f g = let z : ◌≡◌ {A = ℕ} 0 1 = cc in absurd (omega arith)
  others-all r (ReceiveEffect.hands o last live k tid origin at bytes day more) h n f g =
      let z : ◌≡◌ {A = ℕ} 0 1 = cc in absurd (omega arith)

-- ─── Of the code ───

not-taken-so : (a c : Said) → a ≡ c → is_taken a ≡ false → is_taken c ≡ false
not-taken-so a c e q = rw e at q

-- The code's state, of a box.
abbrev relay_of : Box → Relay
relay_of b = record { receiver = b.receiver; reserves = b.reserves; day = b.day }

open_stays : (b : Relay) (series reserves : List ℕ) (r : OpenStep) → OpensBox b series reserves r
    → is_taken (opened_said r.answer) ≡ false → r.end ≡ b
open_stays b series reserves r h q =
    let B = box_for b [] in
    let g = h [] in
    ap relay_of
    (g.0 ∙ open-refused B (open_box_of B series reserves) (open-left B series reserves) (rw g.1.0 at q))

ask-stays : (b : Relay) (s : ℕ) (content out : List ℕ) (r : Requested) (later : List ℕ)
    → AsksBox b s content out r later → is_taken (requested_said r) ≡ false → later ≡ out
ask-stays b s content out r later h q =
    let g = h [] in
    g.1 ∙ ask-bytes (box_for b []) s content out (rw g.0.0 at q)

module _ (b : Relay) (seats : List ℕ) where
  abbrev B : Box
  B = box_for b seats

  numbers_stay : (s : ℕ) (p log : List ℕ) (w : AnswerWay) → AnswerDone B s p log w
      → is_taken (confirmed_said (answer_by B (confirm_login_of B.receiver s p) w).answer) ≡ false
      → answered_numbers seats w ≡ seats
  numbers_stay s p log w (comes-late q) t = refl
  numbers_stay s p log w (not_taken x q) t = refl
  numbers_stay s p log w (same-day n d q f l u) t = refl
  numbers_stay s p log w (not_opened n d q f u x o) t = refl
  numbers_stay s p log w (opened n d q f u o) t = clash true refl (rw q at t)

  answer-numbers : (s : ℕ) (p log : List ℕ) → is_taken (confirmed_said (answer_of B s p log).answer) ≡ false
      → answered_numbers seats (answer_way B s p log) ≡ seats
  unfolding answer_of
  answer-numbers s p log t = numbers_stay s p log (answer_way B s p log) (answer-done B s p log) t

  answer-stays : (s : ℕ) (p log : List ℕ) (r : ConfirmStep) (later : List ℕ) → ConfirmsBox b seats s p log r later
      → is_taken (confirmed_said r.answer) ≡ false → (r.end ≡ b) × (later ≡ seats)
  answer-stays s p log r later h q =
      let t = rw h.1.0 at q in (
        ap relay_of (h.0 ∙ answer-refused B s p log (answer_of B s p log) (answer-effect B s p log) t),
        h.2 ∙ answer-numbers s p log t,
      )

  login-stays : (i s : ℕ) (p content out : List ℕ) (r : LoggedIn) (later_seats later : List ℕ)
      → LogsInSeat b seats i s p content out r later_seats later
      → is_taken (login_said r) ≡ false → (later_seats ≡ seats) × (later ≡ out)
  login-stays i s p content out (Ok n) later_seats later h q = clash true refl q
  login-stays i s p content out (Err x) later_seats later h q =
      (h.2, h.3 ∙ left-bytes login_said B i out _ (login-left B i s p content out) (not-taken-so _ _ h.1.0 q))

  send-stays : (i s : ℕ) (log out : List ℕ) (r : SendAnswer) (later_seats later : List ℕ)
      → SendsSeat b seats i s log out r later_seats later
      → is_taken (sent_said r) ≡ false → (later_seats ≡ seats) × (later ≡ out)
  send-stays i s log out (Ok None) later_seats later h q = clash true refl q
  send-stays i s log out (Ok (Some found)) later_seats later h q = clash true refl q
  send-stays i s log out (Err x) later_seats later h q =
      (h.2, h.3 ∙ left-bytes sent_said B i out _ (send-left B i s log out) (not-taken-so _ _ h.1.0 q))

  packet-stays : (i s : ℕ) (log out : List ℕ) (r : PacketSent) (later_seats later : List ℕ)
      → SendsPacketSeat b seats i s log out r later_seats later
      → is_taken (sent_packet_said r) ≡ false → (later_seats ≡ seats) × (later ≡ out)
  packet-stays i s log out (Ok None) later_seats later h q = clash true refl q
  packet-stays i s log out (Ok (Some found)) later_seats later h q = clash true refl q
  packet-stays i s log out (Err x) later_seats later h q =
      (h.2, h.3 ∙ left-bytes sent_packet_said B i out _ (packet-left B i s log out) (not-taken-so _ _ h.1.0 q))

module _ (b : Relay) (p log buffer : List ℕ) where
  abbrev N : Box
  N = box_for b []

  abbrev meant : Relayed
  meant = receive_box_of N p log buffer

  stands-code : (n : ℕ) → received_said p meant.buffer meant.answer ≡ refused n → drops_chain N p buffer n ≡ false
      → left_by meant ≡ standing N log buffer
  stands-code n f g = rests-all N p log buffer meant (receive-effect N p log buffer) n f g

  drops-code : (n : ℕ) → received_said p meant.buffer meant.answer ≡ refused n → drops_chain N p buffer n ≡ true
      → left_by meant ≡ standing (with_receiver N (cleared b.receiver (borne p))) log buffer
  drops-code n f g = (clears-all N p log buffer meant (receive-effect N p log buffer) n f g).stays

  -- Either way both buffers stay.
  lent-code : (n : ℕ) → received_said p meant.buffer meant.answer ≡ refused n →
      (meant.log ≡ log) × (meant.buffer ≡ buffer)
  lent-code n f = go (drops_chain N p buffer n) refl
    where
      go : (c : Bool) → drops_chain N p buffer n ≡ c → (meant.log ≡ log) × (meant.buffer ≡ buffer)
      go true g =
          let z = drops-code n f g in
          (ap (λ (y : Standing). y.log) z, ap (λ (y : Standing). y.buffer) z)
      go false g =
          let z = stands-code n f g in
          (ap (λ (y : Standing). y.log) z, ap (λ (y : Standing). y.buffer) z)

  receive-stays : (r : ReceiveStep) (later_log later_buffer : List ℕ)
      → ReceivesBox b p log buffer r later_log later_buffer → (n : ℕ)
      → received_said p later_buffer r.answer ≡ refused n →
      (later_log ≡ log)
      × (later_buffer ≡ buffer)
      × (drops_chain N p buffer n ≡ false → r.end ≡ b)
      × (drops_chain N p buffer n ≡ true
      → r.end ≡ record { receiver = cleared b.receiver (borne p); reserves = b.reserves; day = b.day })
  receive-stays r later_log later_buffer h n q =
      let g = h [] in
      let f = sym g.1 ∙ q in
      let z = lent-code n f in (
        g.3 ∙ z.0,
        g.4 ∙ z.1,
        λ c. ap relay_of (g.0 ∙ ap (λ (y : Standing). y.box) (stands-code n f c)),
        λ c. ap relay_of (g.0 ∙ ap (λ (y : Standing). y.box) (drops-code n f c)),
      )

-- ─── The record ───

pub refusals-leave : RefusalsLeave
refusals-leave =
    record {
      stands = refused_all;
      output = output-all;
      receive-stands = λ x p n f g.
          rests-all x.box p x.log x.buffer _ (receive-effect x.box p x.log x.buffer) n f g;
      receive-drops = λ x p n f g.
          clears-all x.box p x.log x.buffer _ (receive-effect x.box p x.log x.buffer) n f g;
      receive-others = λ x p n h f g.
          others-all x.box p x.log x.buffer _ (receive-effect x.box p x.log x.buffer) h n f g;
      several = λ b bytes log buffer n q. box-bufferful.packets.stops (logged b log) bytes buffer (refused n) q;
      open_code = open_stays;
      ask-code = ask-stays;
      answer-code = answer-stays;
      receive-code = receive-stays;
      login-code = login-stays;
      send-code = send-stays;
      send-packet-code = packet-stays;
    }
