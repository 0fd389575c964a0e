-- Receive of the box: what was decided, published and kept is what its definition says. Assumes nothing.
use Prim.Native.Nat.{ℕ, ◌+◌, ◌-◌, ◌≤◌}
use native.Mathlib.Omega.{arith}
use mathlib.Core.Path.{◌≡◌, refl, sym, ap, ◌∙◌}
use mathlib.Core.List.{List, [], ◌∷◌, ◌++◌}
use mathlib.Core.Bool.{Bool, true, false, ◌&&◌}
use borrow.Author.Tests.{le-leb}
use lib.ListN.{length, length-drop, take, drop}
use lib.Seq.{length-take-le}
use Rattle.ftd.specs.Bytes.{part, put}
use Rattle.ftd.specs.Packet.{dated_of}
use Rattle.ftd.specs.declared.packet.Span.{Span}
use Rattle.ftd.specs.declared.refusal.Refusal.{Refusal}
use Rattle.ftd.specs.Types.{TradeDate}
use Rattle.ftd.specs.declared.refusal.Refusal.TheVariants.{OtherDay}
use Rattle.flow.specs.declared.sender.Day.{Day}
use Rattle.flow.specs.declared.sender.Seat.{Seat}
use Rattle.flow.specs.declared.sender.Sender.{Sender}
use Rattle.flow.specs.Types.{Published}
use Rattle.flow.specs.declared.sender.PublishStep.{PublishStep}
use Rattle.flow.specs.declared.receiver.Receiver.{Receiver}
use Rattle.flow.specs.declared.receiver.Origin.{Origin}
use Rattle.flow.specs.declared.receiver.Origin.TheVariants.{Packet as FromPacket, Buffer as FromBuffer}
use Rattle.flow.specs.declared.receiver.Received.{Received}
use Rattle.flow.specs.declared.receiver.Received.TheVariants.{Idle, Duplicate, Partial, Complete}
use Rattle.flow.specs.declared.receiver.Received.TheVariants.{Refused as NotTaken}
use Rattle.flow.specs.declared.receiver.Decision.{Decision}
use Rattle.flow.specs.Ends.{◌when◌else◌, Wrote, wrote, before, is_open, kept_of}
use Rattle.flow.specs.Answers.{Message, received_said, message_in, content_in}
use Rattle.flow.specs.Deciding.{receive_past, receive_from, copied_to, span_of, EndsIn, LiesAt, Decides, dropped_of}
use Rattle.flow.specs.Promises.{Publishes}
use Rattle.flow.specs.Receiving.{receive_of, dropped}
use Rattle.flow.specs.Serving.{publish_of}
use Rattle.flow.specs.World.{series_in}
use Rattle.flow.proofs.calls.Serving.{PublishDone, publish-refused, publish-taken, publish-cases}
use Rattle.flow.proofs.pieces.Buffers.{part-put}
use Rattle.relay.specs.declared.relay.Relay.{Relay}
use Rattle.relay.specs.declared.relay.ReceiveStep.{ReceiveStep}
use Rattle.relay.specs.State.{Box, box_for}
use Rattle.relay.specs.Box.{box, no_seat, server_of, with_receiver, Relayed, relayed, late, published_way}
use Rattle.relay.specs.Box.{handed_way, receive_way, receive_by, receive_box_of}
use Rattle.relay.specs.Promises.{ReceivesBox}
use Rattle.relay.specs.Helpers.{KeepsBy, handed_content, Hands}
use Rattle.relay.proofs.Effects.{EndEffect, end-effect}
use Rattle.std.specs.Prelude.{Some, None, Ok, Err}

-- ─── The box, by what the receiving end decided ───

module _ (b : Box) (p log buffer : List ℕ) where
  abbrev s : ℕ
  s = series_in (dated_of p).packet

  abbrev publishing : Message → Wrote Sender Published
  publishing m = publish_of (server_of b.day no_seat) s m.tid m.content log

  abbrev by_published : Wrote Receiver Received → Wrote Sender Published → Published → Relayed
  by_published f q (Ok k) = relayed (box f.end b.reserves q.end.day b.seats) f.answer q.bytes f.bytes
  by_published f q (Err x) = relayed (with_receiver b (dropped b.receiver s)) (NotTaken x) log buffer

  abbrev by_messages : Wrote Receiver Received → List Message → Relayed
  by_messages f [] = relayed (with_receiver b f.end) f.answer log f.bytes
  by_messages f (m ∷ ms) = by_published f (publishing m) (publishing m).answer

  published-by : (f : Wrote Receiver Received) (m : Message) (q : Wrote Sender Published) (a : Published)
      → receive_by b s log buffer f (published_way m q a) ≡ by_published f q a
  published-by f m q (Ok k) = refl
  published-by f m q (Err x) = refl

  handed-by : (f : Wrote Receiver Received) (ms : List Message)
      → receive_by b s log buffer f (handed_way b.day s log ms) ≡ by_messages f ms
  handed-by f [] = refl
  handed-by f (m ∷ ms) = published-by f m (publishing m) (publishing m).answer

  abbrev said_by : Wrote Receiver Received → List Message
  said_by f = message_in (received_said p f.bytes f.answer)

  abbrev r : Wrote Receiver Received
  r = receive_of b.receiver p buffer

  by-late : (w : Bool) → receive_by b s log buffer r (late when w else handed_way b.day s log (said_by r)) ≡
      (let f = (wrote (dropped b.receiver s) (NotTaken OtherDay) buffer when w else r) in by_messages f (said_by f))
  by-late true = refl
  by-late false = handed-by r (said_by r)

  pub decided-by : receive_box_of b p log buffer
      ≡ (let f = receive_from b.day.date b.receiver p buffer in by_messages f (said_by f))
  unfolding receive_box_of receive_way receive_from
  decided-by = by-late (receive_past r.answer && before (kept_of b.receiver s).date b.day.date)

-- ─── A message is handed on by an open series alone ───

module _ (e : Receiver) (p buffer : List ℕ) (n tid : ℕ) (o : Origin) (at : Span) where
  effect-open : (s : ℕ) (r : Wrote Receiver Received) → EndEffect e s buffer r → r.answer ≡ Complete n tid o at
      → is_open e s ≡ true
  effect-open s r (EndEffect.rests a z) q = absurd (rw q at z)
  effect-open s r (EndEffect.drops g x z) q = let y : ◌≡◌ {A = ℕ} 0 1 = cc in absurd (omega arith)
  effect-open s r (EndEffect.again g m) q = let y : ◌≡◌ {A = ℕ} 0 1 = cc in absurd (omega arith)
  effect-open s r (EndEffect.holds g last live m bytes) q = let y : ◌≡◌ {A = ℕ} 0 1 = cc in absurd (omega arith)
  effect-open s r (EndEffect.hands g last live m t y k bytes) q = g.0

  open-from : (w : Bool) → (wrote (dropped e (series_in (dated_of p).packet)) (NotTaken OtherDay) buffer when w else
      receive_of e p buffer).answer ≡ Complete n tid o at → is_open e (series_in (dated_of p).packet) ≡ true
  open-from true q = let y : ◌≡◌ {A = ℕ} 0 1 = cc in absurd (omega arith)
  open-from false q = effect-open (series_in (dated_of p).packet) (receive_of e p buffer) (end-effect e p buffer) q

  pub handed-open : (floor : TradeDate) → (receive_from floor e p buffer).answer ≡ Complete n tid o at
      → is_open e (series_in (dated_of p).packet) ≡ true
  unfolding receive_from
  handed-open floor q =
      open-from
      (receive_past (receive_of e p buffer).answer && before (kept_of e (series_in (dated_of p).packet)).date floor) q

-- ─── A refused publication leaves the log ───

refused-log : (e : Sender) (s tid : ℕ) (content log : List ℕ) (x : Refusal)
    → (publish_of e s tid content log).answer ≡ Err x → (publish_of e s tid content log).bytes ≡ log
refused-log e s tid content log x q = go (publish_of e s tid content log) (publish-cases e s tid content log) q
  where
    go : (r : Wrote Sender Published) → PublishDone e s tid content log r → r.answer ≡ Err x → r.bytes ≡ log
    go r (publish-refused y) q = refl
    go r (publish-taken t) q = let y : ◌≡◌ {A = ℕ} 0 1 = cc in absurd (omega arith)

-- ─── The code's step ───

module _ (b : Relay) (p log buffer : List ℕ) (d : Decision)
    (h : Decides b.receiver b.day.date p buffer d) where
  abbrev copied : List ℕ
  copied = copied_to d.target (span_of p d.content) buffer

  abbrev f : Wrote Receiver Received
  f = wrote d.end d.answer copied

  box-by : (ns : List ℕ) → receive_box_of (box_for b ns) p log buffer
      ≡ by_messages (box_for b ns) p log buffer f (message_in (received_said p copied d.answer))
  box-by ns =
      decided-by (box_for b ns) p log buffer
      ∙ ap (λ (g : Wrote Receiver Received). by_messages (box_for b ns) p log buffer g
      (message_in (received_said p g.bytes g.answer))) (sym h.0)

  -- Nothing is handed on.
  pub kept-is : message_in (received_said p copied d.answer) ≡ [] → (r : ReceiveStep) (after : List ℕ)
      → KeepsBy b b.day d p buffer r after → ReceivesBox b p log buffer r log after
  kept-is q r after k = rw (k.0, k.1) λ ns. rw (box-by ns, q) (refl, refl, refl, refl, refl)

  module _ (tid : ℕ) (o : Origin) (all : Span) where
    hands-at : (a : Received) → Hands tid o all a → message_in (received_said p copied a)
        ≡ record { tid = tid; content = content_in p copied o all } ∷ []
    hands-at Idle z = absurd z
    hands-at (Duplicate n) z = absurd z
    hands-at (Partial n) z = absurd z
    hands-at (Complete n t o' at) z = rw (z.0, z.1, z.2) refl
    hands-at (NotTaken x) z = absurd z

    hands-open : (a : Received) → Hands tid o all a → d.answer ≡ a
        → is_open b.receiver (series_in (dated_of p).packet) ≡ true
    hands-open Idle z q = absurd z
    hands-open (Duplicate n) z q = absurd z
    hands-open (Partial n) z q = absurd z
    hands-open (Complete n t o' at) z q =
        handed-open b.receiver p buffer n t o' at b.day.date
        (ap (λ (g : Wrote Receiver Received). g.answer) (sym h.0) ∙ q)
    hands-open (NotTaken x) z q = absurd z

    module _ (z : Hands tid o all d.answer) (step : PublishStep) (later : List ℕ)
        (g : Publishes (server_of b.day no_seat) d.series tid (handed_content d p buffer o all) log step later) where
      abbrev q : Wrote Sender Published
      q = publish_of (server_of b.day no_seat) (series_in (dated_of p).packet) tid (content_in p copied o all) log

      k : Publishes (server_of b.day no_seat) (series_in (dated_of p).packet) tid (content_in p copied o all) log step later
      k = rw h.1 at g

      pub handed-is : (n : ℕ) → step.answer ≡ Ok n → (r : ReceiveStep) (after : List ℕ)
          → KeepsBy b step.end.day d p buffer r after → ReceivesBox b p log buffer r later after
      handed-is n a r after w =
          let y : q.answer ≡ Ok n = sym k.1.1 ∙ a in
          rw (w.0, w.1, k.0, k.2)
          λ ns. rw (box-by ns, hands-at d.answer z, y) (refl, refl, refl, refl, refl)

      pub refused-is : (x : Refusal) → step.answer ≡ Err x → (end : Receiver)
          → end ≡ dropped_of b.receiver d.series → (r : Relay)
          → r ≡ record { receiver = end; reserves = b.reserves; day = b.day }
          → ReceivesBox b p log buffer (record { end = r; answer = NotTaken x }) later buffer
      unfolding dropped_of
      refused-is x a end u r w =
          let y : q.answer ≡ Err x = sym k.1.1 ∙ a in
          let o = hands-open d.answer z refl in
          rw (w, u, h.1, o, k.2, refused-log _ _ _ _ log x y)
          λ ns. rw (box-by ns, hands-at d.answer z, y) (refl, refl, refl, refl, refl)

-- ─── The message where it lies ───

module _ (d : Decision) (p buffer : List ℕ) (all : Span) (o : Origin) (h : LiesAt d buffer (Complete 0 0 o all))
    (inside : d.content.start + d.content.len ≤ length p) where
  abbrev piece : List ℕ
  piece = take (d.content.start + d.content.len - d.content.start) (drop d.content.start p)

  piece_is : piece ≡ span_of p d.content
  piece_is =
      let z : d.content.start + d.content.len - d.content.start ≡ d.content.len = omega arith in
      ap (λ (n : ℕ). take n (drop d.content.start p)) z

  piece-long : length (span_of p d.content) ≡ d.content.len
  piece-long =
      let z = length-drop d.content.start p in
      length-take-le d.content.len (drop d.content.start p) (omega arith)

  pub in-packet : o ≡ FromPacket → piece ≡ handed_content d p buffer o all
  in-packet q =
      let g : (all ≡ d.content) × (d.target ≡ None) = rw q at h in
      piece_is ∙ ap (span_of p) (sym g.0) ∙ ap (λ (x : Origin). handed_content d p buffer x all) (sym q)

  module _ (q : o ≡ FromBuffer) where
    ends : EndsIn all d.content.len buffer d.target
    ends = rw q at h

    pub never : d.target ≡ None → ⊥
    never t = rw t at ends

    module _ (n : ℕ) (t : d.target ≡ Some n) where
      at-end : (all.start ≤ n) × (n + d.content.len ≡ all.start + all.len) × (n + d.content.len ≤ length buffer)
      at-end = rw t at ends

      pub held-from : all.start ≤ n
      held-from = at-end.0

      pub held_in : n ≤ length buffer
      held_in = let z = at-end.2 in omega arith

      put-there : copied_to d.target (span_of p d.content) buffer ≡ put buffer n (span_of p d.content)
      put-there =
          let z = at-end.2 in
          rw (t, piece-long, le-leb (n + d.content.len) (length buffer) z) refl

      pub in_both : part buffer all.start (n - all.start) ++ piece ≡ handed_content d p buffer o all
      in_both =
          let c = span_of p d.content in
          let a = at-end.0 in
          let b = at-end.1 in
          let e : all.start + (n - all.start) ≡ n = omega arith in
          let l : n - all.start + length c ≡ all.len = rw piece-long (omega arith) in
          ap (λ (x : List ℕ). part buffer all.start (n - all.start) ++ x) piece_is
          ∙ sym (part-put buffer c all.start (n - all.start) (rw e held_in))
          ∙ ap (λ (x : ℕ). part (put buffer x c) all.start (n - all.start + length c)) e
          ∙ ap (part (put buffer n c) all.start) l
          ∙ ap (λ (x : List ℕ). part x all.start all.len) (sym put-there)
          ∙ ap (λ (x : Origin). handed_content d p buffer x all) (sym q)

-- Publish of a server with no seat, of that content.
pub publishes-as : (b : Relay) (seat : Seat) (server : Sender) → seat ≡ no_seat → server ≡ server_of b.day seat
    → (s tid : ℕ) (content meant : List ℕ) → content ≡ meant → (log : List ℕ) (r : PublishStep) (after : List ℕ)
    → Publishes server s tid content log r after → Publishes (server_of b.day no_seat) s tid meant log r after
publishes-as b seat server u v s tid content meant q log r after h =
    rw (← q, ← (v ∙ ap (server_of b.day) u)) h

-- ─── What is handed from function to function ───

-- The buffer once the piece is copied.
abbrev pub kept : List ℕ → List ℕ → Decision → List ℕ
kept p buffer d = copied_to d.target (span_of p d.content) buffer

pub hands-of : (a : Received) (n tid : ℕ) (o : Origin) (all : Span) → a ≡ Complete n tid o all → Hands tid o all a
hands-of a n tid o all q = rw q (refl, refl, refl)

pub hands-lie : (d : Decision) (buffer : List ℕ) (tid : ℕ) (o : Origin) (all : Span) (a : Received) → Hands tid o all a
    → LiesAt d buffer a → LiesAt d buffer (Complete 0 0 o all)
hands-lie d buffer tid o all Idle z h = absurd z
hands-lie d buffer tid o all (Duplicate n) z h = absurd z
hands-lie d buffer tid o all (Partial n) z h = absurd z
hands-lie d buffer tid o all (Complete n t FromPacket at) z h = rw (← z.1, ← z.2) h
hands-lie d buffer tid o all (Complete n t FromBuffer at) z h = rw (← z.1, ← z.2) h
hands-lie d buffer tid o all (NotTaken x) z h = absurd z

-- The piece copied, as it is lent.
pub keeps-as : (b : Relay) (day : Day) (d : Decision) (p buffer after : List ℕ)
    → after ≡ copied_to d.target
    (take (d.content.start + d.content.len - d.content.start) (drop d.content.start p)) buffer
    → KeepsBy b day d p buffer
    (record { end = record { receiver = d.end; reserves = b.reserves; day = day }; answer = d.answer }) after
keeps-as b day d p buffer after q =
    let z : d.content.start + d.content.len - d.content.start ≡ d.content.len = omega arith in
    (refl, q ∙ ap (λ (n : ℕ). copied_to d.target (take n (drop d.content.start p)) buffer) z)
