-- What an event does to the serving side: nothing, or what one call does that was taken. Everything that holds of the
-- serving side after every list of events is proved over these moves. Assumes nothing.
use Prim.Native.Nat.{ℕ, suc, ◌+◌, ◌≤◌, ◌<◌}
use mathlib.Core.Path.{◌≡◌}
use mathlib.Core.List.{List, [], ◌∷◌, ◌++◌, append-nil}
use mathlib.Core.Bool.{false}
use mathlib.Core.Option.{some}
use lib.ListN.{length, drop, get_elem?}
use lib.Seq.{take-append_seam}
use Rattle.ftd.specs.Login.{login_bytes}
use Rattle.ftd.specs.Bytes.{part, put}
use Rattle.ftd.specs.Packet.{dated_of}
use Rattle.ftd.specs.Resume.{resume_of}
use Rattle.ftd.specs.declared.packet.Header.{Header}
use Rattle.ftd.specs.declared.packet.Span.{Span}
use Rattle.ftd.specs.declared.packet.Packet.TheVariants.{Message as Accepted}
use Rattle.flow.specs.declared.sender.Sender.{Sender}
use Rattle.flow.specs.Types.{Opened}
use Rattle.flow.specs.Types.{Published}
use Rattle.flow.specs.Types.{LoggedIn}
use Rattle.flow.specs.Ends.{Left, Wrote, wrong_series, up_to, published_of, place_of, with_entry, with_place}
use Rattle.flow.specs.Log.{entry_bytes, entry_of}
use Rattle.flow.specs.Serving.{start_of, send_packets, send_bytes, next_packet, last_packet, after_packet, open_day_of}
use Rattle.flow.specs.Serving.{publish_of, login_of, send_of, send_packet_of}
use Rattle.flow.specs.World.{in_series, dated, only, transmission, whole, ended_in, ended_all, so_far, with_packet}
use Rattle.flow.specs.World.{Event, open_sender, publish, login, send, send_packet, open_receiver, connect}
use Rattle.flow.specs.World.{request_login, confirm_login, receive, SenderSide, after_open, after_publish, after_login}
use Rattle.flow.specs.World.{packets_in, after_send, after_send_packet, World, step, run}
use Rattle.flow.proofs.ends.SenderOpened.{opened_sender}
use Rattle.flow.proofs.calls.Serving.{OpenDone, open-refused, open-taken, open-cases, PublishTests, PublishDone}
use Rattle.flow.proofs.calls.Serving.{publish-refused, publish-taken, publish-cases, LoginTests, LoginDone}
use Rattle.flow.proofs.calls.Serving.{login-refused, login-taken, login-cases, Seated, SendDone, send-unknown}
use Rattle.flow.proofs.calls.Serving.{send-outside, send-drained, send-damaged, send-small, send-taken}
use Rattle.flow.proofs.calls.Serving.{send-cases, PacketDone, packet-unknown, packet-outside, packet-drained}
use Rattle.flow.proofs.calls.Serving.{packet-damaged, packet-missing, packet-small, packet-taken, packet-cases}
use Rattle.flow.proofs.common.Rows.{by-given}
use Rattle.std.specs.Prelude.{Some}
use Rattle.flow.specs.Types.{SendAnswer, PacketSent}

-- ─── What a call that was taken leaves ───

abbrev pub opened_side : SenderSide → ℕ → List ℕ → List ℕ → SenderSide
opened_side v date ss rs = record {
  end = opened_sender date ss rs;
  log = v.log;
  day = Some date;
  openings = suc v.openings;
  published = v.published;
  answers = v.answers;
  transmissions = ended_all v.transmissions;
  messages = v.messages;
}

abbrev pub published_side : SenderSide → ℕ → ℕ → List ℕ → SenderSide
published_side v s tid content = record {
  end = with_entry v.end s (16 + length content);
  log = put v.log v.end.day.used (entry_bytes s tid (published_of v.end s + 1) content);
  day = v.day;
  openings = v.openings;
  published = v.published ++ (dated s v.day (record { tid = tid; content = content }) ∷ []);
  answers = v.answers;
  transmissions = v.transmissions;
  messages = v.messages;
}

abbrev pub login_side : SenderSide → ℕ → ℕ → List ℕ → SenderSide
login_side v s next content = record {
  end = with_place v.end s next 0;
  log = v.log;
  day = v.day;
  openings = v.openings;
  published = v.published;
  answers = v.answers ++ (in_series s (login_bytes v.end.day.date content) ∷ []);
  transmissions = ended_in s v.transmissions;
  messages = v.messages;
}

abbrev pub sent_side : SenderSide → ℕ → List ℕ → SenderSide
sent_side v s x = record {
  end = with_place v.end s (suc (place_of v.end s).next) 0;
  log = v.log;
  day = v.day;
  openings = v.openings;
  published = v.published;
  answers = v.answers;
  transmissions = ended_in s v.transmissions ++ (transmission s (packets_in (send_bytes v.end s x)) whole ∷ []);
  messages = v.messages ++ (in_series s (packets_in (send_bytes v.end s x)) ∷ []);
}

abbrev pub packet_side : SenderSide → ℕ → List ℕ → SenderSide
packet_side v s x = record {
  end = after_packet v.end s (last_packet v.end s x);
  log = v.log;
  day = v.day;
  openings = v.openings;
  published = v.published;
  answers = v.answers;
  transmissions = with_packet s (last_packet v.end s x) (next_packet v.end s x) v.transmissions;
  messages =
      v.messages ++ only (last_packet v.end s x)
      (in_series s (so_far s v.transmissions ++ (next_packet v.end s x ∷ [])));
}

pub data Move (v : SenderSide) : SenderSide → Type 0 where
  stays : Move v v
  opens : (date : ℕ) (ss rs : List ℕ) → wrong_series ss ≡ false → up_to date v.end.day.date ≡ false
      → Move v (opened_side v date ss rs)
  publishes : (s tid : ℕ) (content : List ℕ) → PublishTests v.end s tid content v.log
      → Move v (published_side v s tid content)
  logs-in : (s : ℕ) (p content out : List ℕ) (h : Header) (x c : Span) → (dated_of p).packet ≡ Accepted h x c →
      LoginTests v.end s h (dated_of p).date (part p c.start c.len) content out →
      Move v (login_side v s (start_of v.end (dated_of p).date (resume_of (part p c.start c.len))) content)
  sends : (s : ℕ) (x : List ℕ) → Seated v.end s → (place_of v.end s).next ≤ published_of v.end s →
      entry_of v.end v.log s (place_of v.end s).next ≡ some x → Move v (sent_side v s x)
  sends-packet : (s : ℕ) (x : List ℕ) → Seated v.end s → (place_of v.end s).next ≤ published_of v.end s →
      entry_of v.end v.log s (place_of v.end s).next ≡ some x
      → (place_of v.end s).piece < length (send_packets v.end s x) → Move v (packet_side v s x)

-- ─── Each call's, in any state and of any bytes ───

module _ (v : SenderSide) where
  pub open-move : (date : ℕ) (ss rs : List ℕ) → Move v (after_open v date (open_day_of v.end date ss rs v.log))
  open-move date ss rs = go (open_day_of v.end date ss rs v.log) (open-cases v.end date ss rs v.log)
    where
      go : (r : Left Sender Opened) → OpenDone v.end date ss rs v.log r → Move v (after_open v date r)
      go r (open-refused x) = stays
      go r (open-taken a b c d) = opens date ss rs a b

  pub publish-move : (s tid : ℕ) (content : List ℕ)
      → Move v (after_publish v s tid content (publish_of v.end s tid content v.log))
  publish-move s tid content =
      go (publish_of v.end s tid content v.log) (publish-cases v.end s tid content v.log)
    where
      go : (r : Wrote Sender Published) → PublishDone v.end s tid content v.log r
          → Move v (after_publish v s tid content r)
      go r (publish-refused x) = rw append-nil stays
      go r (publish-taken t) = publishes s tid content t

  pub login-move : (s : ℕ) (p content out : List ℕ) → Move v (after_login v s (login_of v.end s p content out))
  login-move s p content out = go (login_of v.end s p content out) (login-cases v.end s p content out)
    where
      go : (r : Wrote Sender LoggedIn) → LoginDone v.end s p content out r → Move v (after_login v s r)
      go r (login-refused x) = rw append-nil stays
      go r (login-taken h x c a b g t) =
          let bytes = login_bytes v.end.day.date content in
          rw (take-append_seam bytes (drop (length bytes) out)) (logs-in s p content out h x c g t)

  pub send-move : (s : ℕ) (out : List ℕ) → Move v (after_send v s (send_of v.end s v.log out))
  send-move s out = go (send_of v.end s v.log out) (send-cases v.end s v.log out)
    where
      go : (r : Wrote Sender SendAnswer) → SendDone v.end s v.log out r → Move v (after_send v s r)
      go r (send-unknown a) = rw append-nil stays
      go r (send-outside a b) = rw append-nil stays
      go r (send-drained a b) = rw append-nil stays
      go r (send-damaged a b c) = rw append-nil stays
      go r (send-small x a b c d) = rw append-nil stays
      go r (send-taken x a b c d) =
          let bytes = send_bytes v.end s x in
          rw (take-append_seam bytes (drop (length bytes) out)) (sends s x a b c)

  pub packet-move : (s : ℕ) (out : List ℕ) → Move v (after_send_packet v s (send_packet_of v.end s v.log out))
  packet-move s out = go (send_packet_of v.end s v.log out) (packet-cases v.end s v.log out)
    where
      go : (r : Wrote Sender PacketSent) → PacketDone v.end s v.log out r → Move v (after_send_packet v s r)
      go r (packet-unknown a) = rw append-nil stays
      go r (packet-outside a b) = rw append-nil stays
      go r (packet-drained a b) = rw append-nil stays
      go r (packet-damaged a b c) = rw append-nil stays
      go r (packet-missing x a b c d) = rw append-nil stays
      go r (packet-small x a b c d f) = rw append-nil stays
      go r (packet-taken x a b c d f) =
          let bytes = next_packet v.end s x in
          rw (take-append_seam bytes (drop (length bytes) out)) (sends-packet s x a b c d)

-- ─── Each event's ───

pub step-moves : (w : World) (e : Event) → Move w.serving (step w e).serving
step-moves w (open_sender date ss rs) = open-move w.serving date ss rs
step-moves w (publish s tid content) = publish-move w.serving s tid content
step-moves w (login s i content out) =
    by-given (λ (u : World). Move w.serving u.serving) w (get_elem? w.receiving.requests i) stays λ p q.
    login-move w.serving s p content out
step-moves w (send s out) = send-move w.serving s out
step-moves w (send_packet s out) = packet-move w.serving s out
step-moves w (open_receiver ss) = stays
step-moves w connect = stays
step-moves w (request_login s content out) = stays
step-moves w (confirm_login i) =
    by-given (λ (u : World). Move w.serving u.serving) w (get_elem? w.serving.answers i) stays λ a q. stays
step-moves w (receive i j) =
    by-given (λ (u : World). Move w.serving u.serving) w (get_elem? w.serving.transmissions i) stays λ t q.
    by-given (λ (u : World). Move w.serving u.serving) w (get_elem? t.packets j) stays λ p r. stays

-- What every move keeps, every list of events keeps.
pub run-keeps : (P : SenderSide → Type 0) → ((v u : SenderSide) → Move v u → P v → P u) → (w : World) (es : List Event)
    → P w.serving → P (run w es).serving
run-keeps P keep w [] h = h
run-keeps P keep w (e ∷ es) h =
    run-keeps P keep (step w e) es (keep w.serving (step w e).serving (step-moves w e) h)
