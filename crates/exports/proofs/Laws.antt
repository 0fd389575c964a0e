-- `EndLaws` holds. Assumes nothing.
use Prim.Native.Nat.{ℕ, suc, ◌+◌}
use native.Mathlib.Omega.{arith}
use mathlib.Core.Path.{◌≡◌, refl, sym, ◌∙◌}
use mathlib.Core.List.{List, [], ◌∷◌, map}
use mathlib.Core.Bool.{Bool, true, false, not}
use mathlib.Core.Option.{Option, none, some}
use lib.ListN.{length, length-map}
use lib.Dec.{eqb}
use Rattle.ftd.specs.Packet.{dated_of}
use Rattle.ftd.specs.Runs.{run_of}
use Rattle.ftd.specs.Types.{TradeDate}
use Rattle.flow.specs.declared.sender.DaySeries.{DaySeries}
use Rattle.flow.specs.declared.sender.Place.{Place}
use Rattle.flow.specs.declared.sender.Sender.{Sender}
use Rattle.flow.specs.Types.{Opened}
use Rattle.flow.specs.Types.{Published}
use Rattle.flow.specs.Types.{LoggedIn}
use Rattle.flow.specs.declared.receiver.KeptSeries.{KeptSeries}
use Rattle.flow.specs.declared.receiver.LiveSeries.{LiveSeries}
use Rattle.flow.specs.declared.receiver.Receiver.{Receiver}
use Rattle.flow.specs.Types.{Confirmed}
use Rattle.flow.specs.declared.receiver.Received.{Received}
use Rattle.flow.specs.declared.receiver.Received.TheVariants.{Idle, Duplicate, Partial, Complete}
use Rattle.flow.specs.declared.receiver.Received.TheVariants.{Refused as NotTaken}
use Rattle.flow.specs.declared.several.ReceivedSeveral.{ReceivedSeveral}
use Rattle.flow.specs.declared.several.ReceivedSeveral.TheVariants.{End, Short}
use Rattle.flow.specs.declared.several.ReceivedSeveral.TheVariants.{Complete as StopComplete}
use Rattle.flow.specs.declared.several.ReceivedSeveral.TheVariants.{Refused as StopRefused}
use Rattle.flow.specs.declared.several.PublishedSeveral.{PublishedSeveral}
use Rattle.flow.specs.declared.several.PublishedSeveral.TheVariants.{End as AllIn, Short as Cut}
use Rattle.flow.specs.declared.several.PublishedSeveral.TheVariants.{Refused as NotIn}
use Rattle.flow.specs.Ends.{Left, Wrote, fresh_sender, fresh_receiver, is_served, place_of, with_place}
use Rattle.flow.specs.Serving.{open_day_of, publish_of, login_of, send_of, after_packet, last_packet, send_packet_of}
use Rattle.flow.specs.Receiving.{open_end_of, connect_of, confirm_login_of, receive_of}
use Rattle.flow.specs.Several.{Repeated, took, stop_or, walk_from, several_of, receiving, receive_several_of, publish_record}
use Rattle.flow.specs.Several.{publishing, publish_several_of}
use Rattle.flow.proofs.common.Days.{upto-same}
use Rattle.flow.proofs.ends.SenderLookups.{eight-entry, eight-next}
use Rattle.flow.proofs.ends.SenderLookups.{Eight as SenderEight}
use Rattle.flow.proofs.ends.SenderOpened.{opened_sender, opened-eight, fresh-eight}
use Rattle.flow.proofs.ends.ReceiverLookups.{Eight as ReceiverEight}
use Rattle.flow.proofs.ends.ReceiverOpened.{connect-eight}
use Rattle.flow.proofs.ends.ReceiverOpened.{fresh-eight as fresh-end-eight}
use Rattle.flow.proofs.calls.Serving.{OpenDone, open-refused, open-taken, open-cases}
use Rattle.flow.proofs.calls.Serving.{PublishDone, publish-refused, publish-taken, publish-cases}
use Rattle.flow.proofs.calls.Serving.{LoginDone, login-refused, login-taken, login-cases}
use Rattle.flow.proofs.calls.Serving.{SendDone, send-unknown, send-outside, send-drained, send-damaged, send-small}
use Rattle.flow.proofs.calls.Serving.{send-taken, send-cases, PacketDone, packet-unknown, packet-outside}
use Rattle.flow.proofs.calls.Serving.{packet-drained, packet-damaged, packet-missing, packet-small, packet-taken}
use Rattle.flow.proofs.calls.Serving.{packet-cases}
use Rattle.flow.proofs.steps.Turns.{turn-eight, open_turn, confirm-turn, receive-turn}
use Rattle.exports.specs.declared.serving.FtdSender.{FtdSender}
use Rattle.exports.specs.declared.receiving.FtdReceiver.{FtdReceiver}
use Rattle.exports.specs.Numbers.{flag, dated_flag, date_of, date_for, paired}
use Rattle.exports.specs.Serving.{day_series_for, place_for, sender_for, served_numbers, sender_numbers}
use Rattle.exports.specs.Serving.{published_with, day_opened_numbers, published_numbers, logged_in_numbers}
use Rattle.exports.specs.Serving.{sent_numbers, sent_packet_numbers}
use Rattle.exports.specs.Receiving.{kept_for, live_for, receiver_for, kept_numbers, receiver_numbers}
use Rattle.exports.specs.Receiving.{confirmed_with, received_with, end_opened_numbers, confirmed_numbers}
use Rattle.exports.specs.Receiving.{received_numbers}
use Rattle.exports.specs.Several.{received_several_with, received_several_numbers, published_several_with}
use Rattle.exports.specs.Several.{published_several_numbers}
use Rattle.exports.specs.Laws.{EndLaws, SenderIs, ReceiverIs}
use Rattle.exports.proofs.Filled.{all-eight}
use Rattle.std.specs.Prelude.{Some, None, Ok, Err}
use Rattle.flow.specs.Types.{SendAnswer, PacketSent}

-- Two lists put together, and one of them got back.
module _ {A B C : Type 0} (put : A → B → C) where
  first_back : (f : C → A) → ((x : A) (y : B) → f (put x y) ≡ x) → (l : List A) (m : List B) → length l ≡ length m
      → map f (paired put l m) ≡ l
  first_back f back [] m e = refl
  first_back f back (x ∷ l) [] e = absurd (omega arith)
  first_back f back (x ∷ l) (y ∷ m) e = rw (back x y, first_back f back l m (omega arith)) refl

  second_back : (f : C → B) → ((x : A) (y : B) → f (put x y) ≡ y) → (l : List A) (m : List B) → length l ≡ length m
      → map f (paired put l m) ≡ m
  second_back f back [] [] e = refl
  second_back f back [] (y ∷ m) e = absurd (omega arith)
  second_back f back (x ∷ l) [] e = absurd (omega arith)
  second_back f back (x ∷ l) (y ∷ m) e = rw (back x y, second_back f back l m (omega arith)) refl

-- A trade date and a Bool as numbers, and back.
pub date-back : (d : TradeDate) → date_for (dated_flag d) (date_of d) ≡ d
unfolding date_for
date-back None = refl
date-back (Some d) = refl

flag-back : (b : Bool) → not (eqb (flag b) 0) ≡ b
flag-back false = refl
flag-back true = refl

-- A series as numbers, and back.
place-back : (d : DaySeries) (p : Place) → place_for (served_numbers d p) ≡ p
place-back d p = rw (flag-back p.login) refl

kept_back : (k : KeptSeries) (l : LiveSeries) → kept_for (kept_numbers k l) ≡ k
kept_back k l = rw (date-back k.date) refl

live_back : (k : KeptSeries) (l : LiveSeries) → live_for (kept_numbers k l) ≡ l
live_back k l = rw (flag-back l.login, flag-back l.chain) refl

sender-back : (e : Sender) → length e.day.series ≡ 8 → length e.seat.places ≡ 8
    → sender_for (sender_numbers e) ≡ e
unfolding sender_for sender_numbers
sender-back e a b =
    let same = a ∙ sym b in
    rw (
      date-back e.day.date,
      first_back served_numbers day_series_for (λ d p. refl) e.day.series e.seat.places same,
      second_back served_numbers place_for place-back e.day.series e.seat.places same,
    ) refl

pub receiver-back : (e : Receiver) → length e.kept.series ≡ 8 → length e.live.series ≡ 8
    → receiver_for (receiver_numbers e) ≡ e
unfolding receiver_for receiver_numbers
receiver-back e a b =
    let same = a ∙ sym b in
    rw (
      first_back kept_numbers kept_for kept_back e.kept.series e.live.series same,
      second_back kept_numbers live_for live_back e.kept.series e.live.series same,
    ) refl

-- What a single call keeps of the end, the call for several keeps.
module _ {E A B : Type 0} (R : Repeated E A B) (Keeps : E → Type 0)
    (one : (e : E) (x l : List ℕ) → Keeps e → Keeps (R.call e x l).end) where
  walk-keeps : (xs : List (List ℕ)) (e : E) (l : List ℕ) (at : ℕ) (rest : List ℕ) → Keeps e
      → Keeps (walk_from R e l at rest xs).end
  walk-keeps [] e l at rest h = h
  walk-keeps (x ∷ xs) e l at rest h =
      go (R.stops at (R.call e x l).answer) (walk-keeps xs _ _ _ rest (one e x l h))
    where
      go : (o : Option B) →
          let r = R.call e x l in
          let on = walk_from R r.end r.bytes (at + length x) rest xs in
          Keeps on.end → Keeps (stop_or o (λ b. took r.end b r.bytes (at + length x)) on).end
      go none k = k
      go (some b) k = one e x l h

  pub several-keeps : (e : E) (bytes l : List ℕ) → Keeps e → Keeps (several_of R e bytes l).end
  unfolding several_of
  several-keeps e bytes l h =
      let cut = run_of R.form bytes in
      walk-keeps cut.entries e l 0 cut.rest h

-- ─── The serving end, call by call ───

sender-eight : (e : Sender) → SenderEight e → length (sender_numbers e).series ≡ 8
unfolding sender_numbers
sender-eight e z = all-eight served_numbers e.day.series e.seat.places z.series z.places

sender-is : (e : Sender) → SenderEight e → SenderIs (sender_numbers e) e
sender-is e z = (sender-back e z.series z.places, sender-eight e z)

said-eight : (n : FtdSender) → length n.series ≡ 8 → SenderEight (sender_for n)
unfolding sender_for
said-eight n h =
    record { series = length-map n.series day_series_for ∙ h; places = length-map n.series place_for ∙ h }

module _ (e : Sender) (z : SenderEight e) where
  opened-is : (date : ℕ) (ss rs log : List ℕ) (r : Left Sender Opened) → OpenDone e date ss rs log r
      → SenderIs (day_opened_numbers r).end r.end
  opened-is date ss rs log r (open-refused q) = sender-is e z
  opened-is date ss rs log r (open-taken q h g k) = sender-is (opened_sender date ss rs) (opened-eight date ss rs q)

  pub published-eight : (s tid : ℕ) (content log : List ℕ) (r : Wrote Sender Published)
      → PublishDone e s tid content log r → SenderEight r.end
  published-eight s tid content log r (publish-refused q) = z
  published-eight s tid content log r (publish-taken t) = eight-entry e s t.served z (16 + length content)

  next-is : (s : ℕ) → is_served e s ≡ true → (next piece : ℕ)
      → SenderIs (sender_numbers (with_place e s next piece)) (with_place e s next piece)
  next-is s o next piece = sender-is (with_place e s next piece) (eight-next e s o z next piece)

  logged-in-is : (s : ℕ) (p content out : List ℕ) (r : Wrote Sender LoggedIn) → LoginDone e s p content out r
      → SenderIs (logged_in_numbers r).end r.end
  logged-in-is s p content out r (login-refused q) = sender-is e z
  logged-in-is s p content out r (login-taken h x c a b g t) = next-is s t.served _ 0

  sent_is : (s : ℕ) (log out : List ℕ) (r : Wrote Sender SendAnswer) → SendDone e s log out r
      → SenderIs (sent_numbers r).end r.end
  sent_is s log out r (send-unknown q) = sender-is e z
  sent_is s log out r (send-outside q h) = sender-is e z
  sent_is s log out r (send-drained q h) = sender-is e z
  sent_is s log out r (send-damaged q h g) = sender-is e z
  sent_is s log out r (send-small x q h g i) = sender-is e z
  sent_is s log out r (send-taken x q h g i) = next-is s q.served _ 0

  after_is : (s : ℕ) → is_served e s ≡ true → (last : Bool)
      → SenderIs (sender_numbers (after_packet e s last)) (after_packet e s last)
  unfolding after_packet
  after_is s o true = next-is s o (suc (place_of e s).next) 0
  after_is s o false = next-is s o (place_of e s).next ((place_of e s).piece + 1)

  sent-packet-is : (s : ℕ) (log out : List ℕ) (r : Wrote Sender PacketSent) → PacketDone e s log out r
      → SenderIs (sent_packet_numbers r).end r.end
  sent-packet-is s log out r (packet-unknown q) = sender-is e z
  sent-packet-is s log out r (packet-outside q h) = sender-is e z
  sent-packet-is s log out r (packet-drained q h) = sender-is e z
  sent-packet-is s log out r (packet-damaged q h g) = sender-is e z
  sent-packet-is s log out r (packet-missing x q h g i) = sender-is e z
  sent-packet-is s log out r (packet-small x q h g i j) = sender-is e z
  sent-packet-is s log out r (packet-taken x q h g i j) = after_is s q.served (last_packet e s x)

-- An answer stands beside the end.
published-end : (n : FtdSender) (a : Published) → (published_with n a).end ≡ n
published-end n (Ok k) = refl
published-end n (Err r) = refl

published-several-end : (n : FtdSender) (taken : ℕ) (a : PublishedSeveral) → (published_several_with n taken a).end ≡ n
published-several-end n taken AllIn = refl
published-several-end n taken (Cut k) = refl
published-several-end n taken (NotIn r) = refl

record-eight : (e : Sender) (x log : List ℕ) → SenderEight e → SenderEight (publish_record e x log).end
unfolding publish_record
record-eight e x log z = published-eight e z _ _ _ log _ (publish-cases e _ _ _ log)

-- Numbers that are an end: what a call makes of the end that they say, it makes of that end.
module _ (n : FtdSender) (e : Sender) (h : SenderIs n e) where
  eight-of : SenderEight e
  eight-of = rw h.0 at (said-eight n h.1)

  open-day : (date : ℕ) (ss rs log : List ℕ)
      → SenderIs (day_opened_numbers (open_day_of (sender_for n) date ss rs log)).end (open_day_of e date ss rs log).end
  open-day date ss rs log =
      rw h.0
      (opened-is e eight-of date ss rs log (open_day_of e date ss rs log) (open-cases e date ss rs log))

  publish : (s tid : ℕ) (content log : List ℕ)
      → SenderIs (published_numbers (publish_of (sender_for n) s tid content log)).end
      (publish_of e s tid content log).end
  publish s tid content log =
      let r = publish_of e s tid content log in
      rw (h.0, published-end (sender_numbers r.end) r.answer)
      (sender-is r.end (published-eight e eight-of s tid content log r (publish-cases e s tid content log)))

  publish-several : (records log : List ℕ)
      → SenderIs (published_several_numbers (publish_several_of (sender_for n) records log)).end
      (publish_several_of e records log).end
  publish-several records log =
      let r = publish_several_of e records log in
      rw (h.0, published-several-end (sender_numbers r.end) r.taken r.answer)
      (sender-is r.end (several-keeps publishing SenderEight record-eight e records log eight-of))

  login : (s : ℕ) (p content out : List ℕ)
      → SenderIs (logged_in_numbers (login_of (sender_for n) s p content out)).end (login_of e s p content out).end
  login s p content out =
      rw h.0 (logged-in-is e eight-of s p content out (login_of e s p content out) (login-cases e s p content out))

  send : (s : ℕ) (log out : List ℕ)
      → SenderIs (sent_numbers (send_of (sender_for n) s log out)).end (send_of e s log out).end
  send s log out = rw h.0 (sent_is e eight-of s log out (send_of e s log out) (send-cases e s log out))

  send-packet : (s : ℕ) (log out : List ℕ)
      → SenderIs (sent_packet_numbers (send_packet_of (sender_for n) s log out)).end (send_packet_of e s log out).end
  send-packet s log out =
      rw h.0 (sent-packet-is e eight-of s log out (send_packet_of e s log out) (packet-cases e s log out))

-- ─── The receiving end, call by call ───

pub receiver-eight : (e : Receiver) → ReceiverEight e → length (receiver_numbers e).series ≡ 8
unfolding receiver_numbers
receiver-eight e z = all-eight kept_numbers e.kept.series e.live.series z.kept z.live

pub receiver-is : (e : Receiver) → ReceiverEight e → ReceiverIs (receiver_numbers e) e
receiver-is e z = (receiver-back e z.kept z.live, receiver-eight e z)

pub end-eight : (n : FtdReceiver) → length n.series ≡ 8 → ReceiverEight (receiver_for n)
unfolding receiver_for
end-eight n h = record { kept = length-map n.series kept_for ∙ h; live = length-map n.series live_for ∙ h }

-- An answer stands beside the end.
confirmed-end : (n : FtdReceiver) (a : Confirmed) → (confirmed_with n a).end ≡ n
confirmed-end n (Ok k) = refl
confirmed-end n (Err r) = refl

received-end : (n : FtdReceiver) (a : Received) → (received_with n a).end ≡ n
received-end n Idle = refl
received-end n (Duplicate k) = refl
received-end n (Partial k) = refl
received-end n (Complete last tid origin content) = refl
received-end n (NotTaken r) = refl

received-several-end : (n : FtdReceiver) (taken : ℕ) (a : ReceivedSeveral) → (received_several_with n taken a).end ≡ n
received-several-end n taken End = refl
received-several-end n taken (Short k) = refl
received-several-end n taken (StopComplete last tid origin content) = refl
received-several-end n taken (StopRefused r) = refl

received-eight : (e : Receiver) (p buffer : List ℕ) → ReceiverEight e → ReceiverEight (receive_of e p buffer).end
received-eight e p buffer z = turn-eight None false e z _ _ _ (receive-turn None false e p buffer)

module _ (n : FtdReceiver) (e : Receiver) (h : ReceiverIs n e) where
  pub eight-at : ReceiverEight e
  eight-at = rw h.0 at (end-eight n h.1)

  open-end : (ss : List ℕ) → ReceiverIs (end_opened_numbers (open_end_of (receiver_for n) ss)).end (open_end_of e ss).end
  open-end ss =
      rw h.0
      (receiver-is (open_end_of e ss).end
      (turn-eight None false e eight-at (open_end_of e ss).end [] [] (open_turn None false e ss)))

  connect : ReceiverIs (receiver_numbers (connect_of (receiver_for n))) (connect_of e)
  connect = rw h.0 (receiver-is (connect_of e) (connect-eight e eight-at))

  confirm : (s : ℕ) (p : List ℕ)
      → ReceiverIs (confirmed_numbers (confirm_login_of (receiver_for n) s p)).end (confirm_login_of e s p).end
  confirm s p =
      let r = confirm_login_of e s p in
      let d = (dated_of p).date in
      rw (h.0, confirmed-end (receiver_numbers r.end) r.answer)
      (receiver-is r.end
      (turn-eight d false e eight-at r.end _ _ (confirm-turn d false e s p (upto-same d))))

  receive : (p buffer : List ℕ)
      → ReceiverIs (received_numbers (receive_of (receiver_for n) p buffer)).end (receive_of e p buffer).end
  receive p buffer =
      let r = receive_of e p buffer in
      rw (h.0, received-end (receiver_numbers r.end) r.answer)
      (receiver-is r.end (received-eight e p buffer eight-at))

  receive-several : (packets buffer : List ℕ)
      → ReceiverIs (received_several_numbers (receive_several_of (receiver_for n) packets buffer)).end
      (receive_several_of e packets buffer).end
  receive-several packets buffer =
      let r = receive_several_of e packets buffer in
      rw (h.0, received-several-end (receiver_numbers r.end) r.taken r.answer)
      (receiver-is r.end (several-keeps receiving ReceiverEight received-eight e packets buffer eight-at))

pub end-laws : EndLaws
end-laws =
    record {
      sender-back = sender-back;
      receiver-back = receiver-back;
      fresh-sender = sender-is fresh_sender fresh-eight;
      open-day = open-day;
      publish = publish;
      publish-several = publish-several;
      login = login;
      send = send;
      send-packet = send-packet;
      fresh-receiver = receiver-is fresh_receiver fresh-end-eight;
      open-end = open-end;
      connect = connect;
      confirm = confirm;
      receive = receive;
      receive-several = receive-several;
    }
