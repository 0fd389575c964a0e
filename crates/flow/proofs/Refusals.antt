-- A refusal changes nothing. Assumes nothing.
use Prim.Native.Nat.{ℕ, zero, suc, ◌<◌, ◌≤◌}
use native.Mathlib.Omega.{arith}
use mathlib.Core.Path.{◌≡◌, refl, ap, sym, ◌∙◌}
use mathlib.Core.List.{List, [], ◌∷◌}
use mathlib.Core.Bool.{true, not, ◌||◌}
use lib.ListN.{length, get_or, set}
use lib.Seq.{set-get_or, get_or-set_same, get_or-set_other}
use lib.Dec.{ltb}
use Rattle.ftd.specs.Bytes.{part}
use Rattle.ftd.specs.Packet.{dated_of}
use Rattle.ftd.specs.Login.{login_tid}
use Rattle.ftd.specs.Fields.{count_of}
use Rattle.ftd.specs.Resume.{resume_fid}
use Rattle.ftd.specs.Items.{wrong_width, wrong_item}
use Rattle.ftd.specs.Composition.{composed}
use Rattle.ftd.specs.Refusal.{number_of}
use Rattle.ftd.specs.declared.composition.Direction.TheVariants.{Up}
use Rattle.ftd.specs.declared.refusal.Refusal.{Refusal}
use Rattle.ftd.specs.Types.{TradeDate}
use Rattle.ftd.specs.Types.{PacketPlace}
use Rattle.ftd.specs.declared.packet.Span.{Span}
use Rattle.ftd.specs.declared.packet.Header.{Header}
use Rattle.flow.specs.declared.sender.Sender.{Sender}
use Rattle.flow.specs.Types.{Opened}
use Rattle.flow.specs.Types.{Published}
use Rattle.flow.specs.Types.{LoggedIn}
use Rattle.flow.specs.declared.receiver.KeptSeries.{KeptSeries}
use Rattle.flow.specs.declared.receiver.LiveSeries.{LiveSeries}
use Rattle.flow.specs.declared.receiver.Receiver.{Receiver}
use Rattle.flow.specs.Types.{Requested}
use Rattle.flow.specs.Types.{Confirmed}
use Rattle.flow.specs.declared.receiver.Received.{Received}
use Rattle.flow.specs.declared.checkpoint.Checkpoints.{Checkpoints}
use Rattle.flow.specs.Types.{Saved}
use Rattle.flow.specs.Types.{Restored}
use Rattle.flow.specs.Ends.{Left, Wrote, index_of, no_live, logged_in, new_kept, request_content, kept_series}
use Rattle.flow.specs.Ends.{is_open, kept_of, live_of, with_series}
use Rattle.flow.specs.Answers.{refused, opened_said, published_said, login_said, sent_said, sent_packet_said}
use Rattle.flow.specs.Answers.{requested_said, confirmed_said, received_said, saved_said, restored_said}
use Rattle.flow.specs.Serving.{wrong_run, open_day_of, publish_of, login_of, send_of, send_packet_of}
use Rattle.flow.specs.Receiving.{request_of, request_bytes, open_end_of, request_login_of, confirm_login_of}
use Rattle.flow.specs.Receiving.{receive_of, dropped}
use Rattle.flow.specs.Checkpoints.{keep_of, restore_of}
use Rattle.flow.specs.Several.{publish_record, receiving, publishing}
use Rattle.flow.specs.Bufferful.{each}
use Rattle.flow.specs.Refusals.{Stays, StaysWith, ChainDropped, ReceiveStays, RefusalsLeave}
use Rattle.flow.proofs.common.Rows.{by-when}
use Rattle.flow.proofs.receiver.Lookups.{kept_number}
use Rattle.flow.proofs.ends.Lookups.{number_at, index-differs}
use Rattle.flow.proofs.ends.ReceiverLookups.{series-with}
use Rattle.flow.proofs.calls.Serving.{OpenDone, open-refused, open-taken, open-cases}
use Rattle.flow.proofs.calls.Serving.{PublishDone, publish-refused, publish-taken, publish-cases}
use Rattle.flow.proofs.calls.Serving.{LoginDone, login-refused, login-taken, login-cases}
use Rattle.flow.proofs.calls.Serving.{SendDone, send-unknown, send-outside, send-drained, send-damaged}
use Rattle.flow.proofs.calls.Serving.{send-small, send-taken, send-cases}
use Rattle.flow.proofs.calls.Serving.{PacketDone, packet-unknown, packet-outside, packet-drained, packet-damaged}
use Rattle.flow.proofs.calls.Serving.{packet-missing, packet-small, packet-taken, packet-cases}
use Rattle.flow.proofs.calls.Receiving.{Opened-as, opens, open-as, Confirmed-as, confirms, confirm-as}
use Rattle.flow.proofs.calls.Receive.{Why, other-day, out-of-line, astray, broken, no-room-first}
use Rattle.flow.proofs.calls.Receive.{no-room-later, Took, unknown, not_in, repeats, hands-single}
use Rattle.flow.proofs.calls.Receive.{holds-first, holds-middle, hands-last, Received-as, unread, idles, reads}
use Rattle.flow.proofs.calls.Receive.{receive-as}
use Rattle.flow.proofs.rewind.Linked.{Keeps-as, keeps, keep-as, Restores-as, restores, restore-as}
use Rattle.flow.proofs.Bufferful.{bufferful}
use Rattle.flow.specs.Types.{SendAnswer, PacketSent}

-- ─── The serving end ───

module _ (e : Sender) where
  day-stays : (date : ℕ) (ss rs log : List ℕ) (r : Left Sender Opened) → OpenDone e date ss rs log r
      → Stays opened_said e r
  day-stays date ss rs log _ (open-refused x) n h = refl
  day-stays date ss rs log _ (open-taken a b c d) n h = let z : ◌≡◌ {A = ℕ} 0 1 = cc in absurd (omega arith)

  publish-stays : (s tid : ℕ) (content log : List ℕ) (r : Wrote Sender Published)
      → PublishDone e s tid content log r → StaysWith published_said e log r
  publish-stays s tid content log _ (publish-refused x) n h = (refl, refl)
  publish-stays s tid content log _ (publish-taken tests) n h =
      let z : ◌≡◌ {A = ℕ} 0 1 = cc in absurd (omega arith)

  login-stays : (s : ℕ) (p content out : List ℕ) (r : Wrote Sender LoggedIn) → LoginDone e s p content out r
      → StaysWith login_said e out r
  login-stays s p content out _ (login-refused x) n h = (refl, refl)
  login-stays s p content out _ (login-taken x y c a b d tests) n h =
      let z : ◌≡◌ {A = ℕ} 0 1 = cc in absurd (omega arith)

  send-stays : (s : ℕ) (log out : List ℕ) (r : Wrote Sender SendAnswer) → SendDone e s log out r → StaysWith sent_said e out r
  send-stays s log out _ (send-unknown a) n h = (refl, refl)
  send-stays s log out _ (send-outside a b) n h = (refl, refl)
  send-stays s log out _ (send-drained a b) n h = (refl, refl)
  send-stays s log out _ (send-damaged a b c) n h = (refl, refl)
  send-stays s log out _ (send-small x a b c d) n h = (refl, refl)
  send-stays s log out _ (send-taken x a b c d) n h = let z : ◌≡◌ {A = ℕ} 0 1 = cc in absurd (omega arith)

  packet-stays : (s : ℕ) (log out : List ℕ) (r : Wrote Sender PacketSent) → PacketDone e s log out r
      → StaysWith sent_packet_said e out r
  packet-stays s log out _ (packet-unknown a) n h = (refl, refl)
  packet-stays s log out _ (packet-outside a b) n h = (refl, refl)
  packet-stays s log out _ (packet-drained a b) n h = (refl, refl)
  packet-stays s log out _ (packet-damaged a b c) n h = (refl, refl)
  packet-stays s log out _ (packet-missing x a b c d) n h = (refl, refl)
  packet-stays s log out _ (packet-small x a b c d f) n h = (refl, refl)
  packet-stays s log out _ (packet-taken x a b c d f) n h = let z : ◌≡◌ {A = ℕ} 0 1 = cc in absurd (omega arith)

-- ─── The receiving end: Opening, Ask, Answer ───

module _ (e : Receiver) where
  end_stays : (ss : List ℕ) (r : Left Receiver Opened) → Opened-as e ss r → Stays opened_said e r
  end_stays ss _ Opened-as.refuses n h = refl
  end_stays ss _ (opens a b) n h = let z : ◌≡◌ {A = ℕ} 0 1 = cc in absurd (omega arith)

  -- Ask leaves the end whatever it answers.
  ask-stays : (s : ℕ) (content out : List ℕ) → StaysWith requested_said e out (request_login_of e s content out)
  unfolding request_login_of
  ask-stays s content out =
      let full = request_of e s content in
      let bytes = request_bytes e s content in
      by-when P (wrong_run content request_content) (λ q n h. (refl, refl)) λ q.
      by-when P (wrong_width full) (λ q n h. (refl, refl)) λ q.
      by-when P (wrong_item full) (λ q n h. (refl, refl)) λ q.
      by-when P (ltb 0 (count_of resume_fid content) || not (composed login_tid Up full)) (λ q n h. (refl, refl)) λ q.
      by-when P (not (is_open e s)) (λ q n h. (refl, refl)) λ q.
      by-when P (ltb (length out) (length bytes)) (λ q n h. (refl, refl)) λ q n h.
      let z : ◌≡◌ {A = ℕ} 0 1 = cc in absurd (omega arith)
    where
      P : Wrote Receiver Requested → Type 0
      P = StaysWith requested_said e out

  answer-stays : (s : ℕ) (p : List ℕ) (r : Left Receiver Confirmed) → Confirmed-as e s (dated_of p).date r
      → Stays confirmed_said e r
  answer-stays s p _ (Confirmed-as.refuses x) n h = refl
  answer-stays s p _ (confirms d a b c) n h =
      let z : ◌≡◌ {A = ℕ} 0 1 = cc in absurd (omega arith)

-- ─── Receive ───

-- A place with a login is there.
inside : (l : List LiveSeries) (i : ℕ) → (get_or l i no_live).login ≡ true → i < length l
inside [] i h = let z : ◌≡◌ {A = ℕ} 0 1 = cc in absurd (omega arith)
inside (x ∷ l) zero h = omega arith
inside (x ∷ l) (suc i) h = omega (arith, inside l i h)

module _ (e : Receiver) (s : ℕ) (o : is_open e s ≡ true) (login : (live_of e s).login ≡ true) where
  abbrev place : ℕ
  place = index_of s (kept_series e)

  series-is : (kept_of e s).series ≡ s
  unfolding is_open kept_of kept_series
  series-is = number_at kept_number e.kept.count e.kept.series s (new_kept 0) o

  -- What is kept is put back as it was.
  kept_back : (dropped e s).kept ≡ e.kept
  unfolding with_series kept_of
  kept_back =
      ap (λ (l : List KeptSeries). record { count = e.kept.count; series = l })
      (ap (λ (k : ℕ). set e.kept.series place
      (record { series = k; date = (kept_of e s).date; last = (kept_of e s).last })) (sym series-is)
      ∙ set-get_or e.kept.series place (new_kept 0))

  places-back : (dropped e s).live.series ≡ set e.live.series place logged_in
  unfolding with_series
  places-back = refl

  live_back : (t : ℕ) → live_of (dropped e s) t
      ≡ get_or (set e.live.series place logged_in) (index_of t (kept_series e)) no_live
  unfolding live_of with_series
  live_back t =
      ap (λ (l : List ℕ). get_or (set e.live.series place logged_in) (index_of t l) no_live)
      (series-with e s o (kept_of e s).date (kept_of e s).last logged_in)

  live_inside : place < length e.live.series
  unfolding live_of
  live_inside = inside e.live.series place login

  chain-gone : live_of (dropped e s) s ≡ logged_in
  chain-gone = live_back s ∙ get_or-set_same e.live.series place logged_in no_live live_inside

  others-stay : (t : ℕ) → (t ≡ s → ⊥) → live_of (dropped e s) t ≡ live_of e t
  unfolding live_of is_open
  others-stay t other =
      live_back t
      ∙ get_or-set_other e.live.series place (index_of t (kept_series e)) logged_in no_live
      (index-differs t s (kept_series e) o other)

  chain-dropped : ChainDropped e (dropped e s) s
  chain-dropped =
      record {
        opens = o;
        kept = kept_back;
        places = places-back;
        login = (login, ap (λ (x : LiveSeries). x.login) chain-gone);
        chain = chain-gone;
        others = others-stay;
      }

same_number : (a b : ℕ) → refused a ≡ refused b → a ≡ b
same_number a b h = cc

-- From 15 on.
high : {e : Receiver} {h : Header} {date : TradeDate} {at : PacketPlace} {content buffer : List ℕ} (x : Refusal)
    → Why e h date at content buffer x → 15 ≤ number_of x
high _ (other-day a) = omega arith
high _ (out-of-line a) = omega arith
high _ (astray a b c) = omega arith
high _ (broken a b c) = omega arith
high _ (no-room-first a b c) = omega arith
high _ (no-room-later a b c d) = omega arith

module _ (e : Receiver) (p buffer : List ℕ) where
  -- What is left of a message packet of a series, where the call is refused.
  abbrev Message-stays : ℕ → Wrote Receiver Received → Type 0
  Message-stays s r =
      (n : ℕ) → received_said p r.bytes r.answer ≡ refused n
      → (r.bytes ≡ buffer) × (n < 15 → r.end ≡ e) × (15 ≤ n → ChainDropped e r.end s)

  took-stays : (h : Header) (date : TradeDate) (at : PacketPlace) (c : Span) (content : List ℕ)
      (r : Wrote Receiver Received) → Took e h date at c content buffer r → Message-stays h.series r
  took-stays h date at c content _ (unknown a) n q =
      let z = same_number 13 n q in (refl, λ g. refl, λ g. absurd (omega arith))
  took-stays h date at c content _ (not_in a) n q =
      let z = same_number 14 n q in (refl, λ g. refl, λ g. absurd (omega arith))
  took-stays h date at c content _ (Took.refuses x w on) n q =
      let z = same_number (number_of x) n q in
      let y = high x w in
      (refl, λ g. absurd (omega arith), λ g. chain-dropped e h.series on.open-series on.login)
  took-stays h date at c content _ (repeats a b d) n q = let z : ◌≡◌ {A = ℕ} 0 1 = cc in absurd (omega arith)
  took-stays h date at c content _ (hands-single a b d) n q = let z : ◌≡◌ {A = ℕ} 0 1 = cc in absurd (omega arith)
  took-stays h date at c content _ (holds-first a b d f) n q = let z : ◌≡◌ {A = ℕ} 0 1 = cc in absurd (omega arith)
  took-stays h date at c content _ (holds-middle a b d f) n q = let z : ◌≡◌ {A = ℕ} 0 1 = cc in absurd (omega arith)
  took-stays h date at c content _ (hands-last a b d f) n q = let z : ◌≡◌ {A = ℕ} 0 1 = cc in absurd (omega arith)

  received-stays : (r : Wrote Receiver Received) → Received-as e p buffer r → (n : ℕ)
      → received_said p r.bytes r.answer ≡ refused n → ReceiveStays e p buffer r.end r.bytes n
  received-stays _ (unread x low) n q =
      let z = same_number (number_of x) n q in (refl, λ g. refl, λ g. absurd (omega arith))
  received-stays _ idles n q = let z : ◌≡◌ {A = ℕ} 0 1 = cc in absurd (omega arith)
  received-stays r (reads h extension c d t) n q =
      rw d (took-stays h (dated_of p).date (dated_of p).place c (part p c.start c.len) r t n q)

  receive-stays : (n : ℕ) →
      let r = receive_of e p buffer in
      received_said p r.bytes r.answer ≡ refused n → ReceiveStays e p buffer r.end r.bytes n
  receive-stays n q = received-stays (receive_of e p buffer) (receive-as e p buffer) n q

-- ─── The checkpoints ───

module _ (c : Checkpoints) (e : Receiver) (name : List ℕ) where
  keep-stays : (r : Left Checkpoints Saved) → Keeps-as c e name r → Stays saved_said c r
  keep-stays _ (Keeps-as.refuses x) n h = refl
  keep-stays _ (keeps a b) n h = let z : ◌≡◌ {A = ℕ} 0 1 = cc in absurd (omega arith)

  restore-stays : (r : Left Receiver Restored) → Restores-as c e name r → Stays restored_said e r
  restore-stays _ (Restores-as.refuses x) n h = refl
  restore-stays _ (restores a b) n h = let z : ◌≡◌ {A = ℕ} 0 1 = cc in absurd (omega arith)

-- ─── A bufferful ───

record-stays : (e : Sender) (x log : List ℕ) → StaysWith published_said e log (publish_record e x log)
unfolding publish_record
record-stays e x log = publish-stays e _ _ _ log _ (publish-cases e _ _ _ log)

-- ─── All of it ───

pub refusals-leave : RefusalsLeave
refusals-leave =
    record {
      open-day =
          λ e date ss rs log. day-stays e date ss rs log (open_day_of e date ss rs log) (open-cases e date ss rs log);
      publish =
          λ e s tid content log.
          publish-stays e s tid content log (publish_of e s tid content log) (publish-cases e s tid content log);
      login = λ e s p content out. login-stays e s p content out (login_of e s p content out) (login-cases e s p content out);
      send = λ e s log out. send-stays e s log out (send_of e s log out) (send-cases e s log out);
      send-packet = λ e s log out. packet-stays e s log out (send_packet_of e s log out) (packet-cases e s log out);
      open-end = λ e ss. end_stays e ss (open_end_of e ss) (open-as e ss);
      ask = ask-stays;
      answer = λ e s p. answer-stays e s p (confirm_login_of e s p) (confirm-as e s p);
      receive = receive-stays;
      keep = λ c e name. keep-stays c e name (keep_of c e name) (keep-as c e name);
      restore = λ c e name. restore-stays c e name (restore_of c e name) (restore-as c e name);
      packets =
          λ e bytes buffer n q.
          let t = bufferful.packets.stops e bytes buffer (refused n) q in
          let b = each receiving e buffer t.before in
          (t, rw (t.says.0, t.says.1) (receive-stays b.end t.input b.bytes n t.says.2));
      records =
          λ e bytes log n q.
          let t = bufferful.records.stops e bytes log (refused n) q in
          let b = each publishing e log t.before in
          let k = record-stays b.end t.input b.bytes n t.says.2 in
          (t, t.says.0 ∙ k.0, t.says.1 ∙ k.1);
    }
