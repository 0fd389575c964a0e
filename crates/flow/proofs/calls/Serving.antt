-- What each call of the serving end does: it is refused and nothing changes, or it is taken, with all its tests passed
-- and this effect. Assumes nothing.
use Prim.Native.Nat.{ℕ, suc, ◌+◌, ◌-◌, ◌≤◌, ◌<◌}
use native.Mathlib.Omega.{arith}
use mathlib.Core.Path.{◌≡◌, refl}
use mathlib.Core.List.{List}
use mathlib.Core.Bool.{true, false, not, ◌||◌}
use mathlib.Core.Option.{Option, none, some}
use borrow.Author.Tests.{ltb-true, ltb-false, leb-true, leb-false, eqb-true, eqb-false, not-true, not-false}
use lib.ListN.{length}
use lib.Dec.{ltb, leb, eqb}
use Rattle.ftd.specs.Login.{login_tid, login_bytes}
use Rattle.ftd.specs.Bytes.{part, put}
use Rattle.ftd.specs.Packet.{dated_of, not_one_packet, no_message_packet}
use Rattle.ftd.specs.Fields.{shaped, count_of, most_content, packet_content}
use Rattle.ftd.specs.Items.{wrong_width, wrong_item}
use Rattle.ftd.specs.Composition.{composed}
use Rattle.ftd.specs.Resume.{resume_of, resume_fid}
use Rattle.ftd.specs.declared.refusal.Refusal.{Refusal}
use Rattle.ftd.specs.declared.refusal.Refusal.TheVariants.{FieldRun, FieldLength, Item, Composition, Opening}
use Rattle.ftd.specs.declared.refusal.Refusal.TheVariants.{NotOnePacket, UnknownSeries, NotLoggedIn, OtherDay}
use Rattle.ftd.specs.declared.refusal.Refusal.TheVariants.{OutOfLine, TooSmall, WrongStart, DamagedLog, DayFull}
use Rattle.ftd.specs.declared.composition.Direction.TheVariants.{Up, Down}
use Rattle.ftd.specs.Types.{TradeDate}
use Rattle.ftd.specs.declared.packet.Header.{Header}
use Rattle.ftd.specs.declared.packet.Span.{Span}
use Rattle.ftd.specs.declared.packet.Packet.{Packet}
use Rattle.ftd.specs.declared.packet.Packet.TheVariants.{Short, Link, Skipped, Message}
use Rattle.ftd.specs.declared.packet.Packet.TheVariants.{Refused as Unread}
use Rattle.flow.specs.declared.sender.Sender.{Sender}
use Rattle.flow.specs.Types.{Opened}
use Rattle.flow.specs.Types.{Published}
use Rattle.flow.specs.Types.{LoggedIn}
use Rattle.flow.specs.Ends.{Left, Wrote, left, wrote, over, most_messages, wrong_series, before, up_to, is_served}
use Rattle.flow.specs.Ends.{published_of, place_of, with_entry, with_place, sum_of, shares_of}
use Rattle.flow.specs.Log.{entry_bytes, log_short, entry_fits, entry_of}
use Rattle.flow.specs.Serving.{wrong_reserves, wrong_day_opening, over_shares, wrong_run, no_login, not_zero, start_elsewhere, start_of, wrong_start}
use Rattle.flow.specs.Serving.{open_day_of, publish_of, login_with, login_read, login_of, is_none_left, send_bytes}
use Rattle.flow.specs.Serving.{send_entry, send_of, send_packets, next_packet, no_packet, last_packet, after_packet}
use Rattle.flow.specs.Serving.{send_packet_entry, send_packet_of}
use Rattle.flow.proofs.common.Bools.{or-neither}
use Rattle.flow.proofs.common.Rows.{by-when}
use Rattle.flow.proofs.ends.SenderOpened.{opened_sender}
use Rattle.std.specs.Prelude.{None, Ok, Err}
use Rattle.flow.specs.Types.{SendAnswer, message_sent, PacketSent, packet_sent}

-- ─── Opening ───

pub data OpenDone (e : Sender) (date : ℕ) (ss rs log : List ℕ) : Left Sender Opened → Type 0 where
  open-refused : (r : Refusal) → OpenDone e date ss rs log (left e (Err r))
  open-taken : wrong_series ss ≡ false → up_to date e.day.date ≡ false → sum_of rs ≤ length log
      → length rs ≡ length ss
      → OpenDone e date ss rs log (left (opened_sender date ss rs) (Ok tt))

pub open-cases : (e : Sender) (date : ℕ) (ss rs log : List ℕ)
    → OpenDone e date ss rs log (open_day_of e date ss rs log)
unfolding open_day_of
open-cases e date ss rs log =
    by-when (OpenDone e date ss rs log) (wrong_day_opening e date ss rs log) (λ q. open-refused Opening) λ q.
    let h = or-neither (wrong_series ss || up_to date e.day.date) (wrong_reserves ss rs log) q in
    let g = or-neither (wrong_series ss) (up_to date e.day.date) h.0 in
    let k = or-neither (not (eqb (length rs) (length ss))) (ltb (length log) (sum_of rs)) h.1 in
    open-taken g.0 g.1 (ltb-false (length log) (sum_of rs) k.1)
    (eqb-true (length rs) (length ss) (not-false _ k.0))

-- ─── Publish ───

pub record PublishTests (e : Sender) (s tid : ℕ) (content log : List ℕ) : Type 0 where
  pub run : shaped content most_content ≡ true
  pub widths : wrong_width content ≡ false
  pub items : wrong_item content ≡ false
  pub counts : composed tid Down content ≡ true
  pub served : is_served e s ≡ true
  pub inside : e.day.used ≤ length log
  pub fits : e.day.used + (16 + length content) ≤ length log
  pub shares : shares_of (with_entry e s (16 + length content)) ≤ length log
  pub few : published_of e s < most_messages

pub data PublishDone (e : Sender) (s tid : ℕ) (content log : List ℕ) : Wrote Sender Published → Type 0 where
  publish-refused : (r : Refusal) → PublishDone e s tid content log (wrote e (Err r) log)
  publish-taken : PublishTests e s tid content log →
      PublishDone e s tid content log
      (wrote (with_entry e s (16 + length content)) (Ok (published_of e s + 1))
      (put log e.day.used (entry_bytes s tid (published_of e s + 1) content)))

module _ (e : Sender) (s tid : ℕ) (content log : List ℕ) where
  log-inside : log_short e log ≡ false → e.day.used ≤ length log
  unfolding log_short
  log-inside h = ltb-false (length log) e.day.used h

  entry-inside : log_short e log ≡ false → not (entry_fits e log content) ≡ false
      → e.day.used + (16 + length content) ≤ length log
  unfolding entry_fits
  entry-inside g h =
      let a = log-inside g in
      let b = ltb-false (length log - e.day.used) (16 + length content) (not-true _ (not-false _ h)) in
      omega arith

  abbrev Publishes : Wrote Sender Published → Type 0
  Publishes = PublishDone e s tid content log

  pub publish-cases : PublishDone e s tid content log (publish_of e s tid content log)
  unfolding publish_of
  publish-cases =
      by-when Publishes (wrong_run content most_content) (λ q. publish-refused FieldRun) λ q1.
      by-when Publishes (wrong_width content) (λ q. publish-refused FieldLength) λ q2.
      by-when Publishes (wrong_item content) (λ q. publish-refused Item) λ q3.
      by-when Publishes (not (composed tid Down content)) (λ q. publish-refused Composition) λ q4.
      by-when Publishes (not (is_served e s)) (λ q. publish-refused UnknownSeries) λ q5.
      by-when Publishes (log_short e log) (λ q. publish-refused DamagedLog) λ q6.
      by-when Publishes (not (entry_fits e log content) || over_shares e s log content) (λ q. publish-refused TooSmall)
      λ q7.
      let h7 = or-neither (not (entry_fits e log content)) (over_shares e s log content) q7 in
      by-when Publishes (leb most_messages (published_of e s)) (λ q. publish-refused DayFull) λ q8.
      publish-taken record {
        run = not-false _ q1;
        widths = q2;
        items = q3;
        counts = not-false _ q4;
        served = not-false _ q5;
        inside = log-inside q6;
        fits = entry-inside q6 h7.0;
        shares =
            ltb-false (length log) (shares_of (with_entry e s (16 + length content))) h7.1;
        few = leb-false most_messages (published_of e s) q8;
      }

-- ─── Login ───

pub record LoginTests (e : Sender) (s : ℕ) (h : Header) (date : TradeDate) (asked content out : List ℕ) : Type 0 where
  pub run : shaped content packet_content ≡ true
  pub widths : (wrong_width asked || wrong_width content) ≡ false
  pub items : (wrong_item asked || wrong_item content) ≡ false
  pub counts : (no_login h || not (composed login_tid Up asked) || ltb 1 (count_of resume_fid asked) || not
      (composed login_tid Down content)) ≡ false
  pub served : is_served e s ≡ true
  pub here : start_elsewhere s (resume_of asked) ≡ false
  pub timely : before e.day.date date ≡ false
  pub zeros : not_zero h ≡ false
  pub room : length (login_bytes e.day.date content) ≤ length out
  pub from_one : 1 ≤ start_of e date (resume_of asked)
  pub behind : start_of e date (resume_of asked) ≤ published_of e s + 1

-- The answer that was written.
abbrev pub answered : Sender → ℕ → ℕ → List ℕ → List ℕ → Wrote Sender LoggedIn
answered e s next content out =
    wrote (with_place e s next 0) (Ok (length (login_bytes e.day.date content)))
    (over (login_bytes e.day.date content) out)

pub data LoginDone (e : Sender) (s : ℕ) (p content out : List ℕ) : Wrote Sender LoggedIn → Type 0 where
  login-refused : (r : Refusal) → LoginDone e s p content out (wrote e (Err r) out)
  login-taken : (h : Header) (x c : Span) → not_one_packet p ≡ false → no_message_packet p ≡ false
      → (dated_of p).packet ≡ Message h x c →
      LoginTests e s h (dated_of p).date (part p c.start c.len) content out →
      LoginDone e s p content out
      (answered e s (start_of e (dated_of p).date (resume_of (part p c.start c.len))) content out)

module _ (e : Sender) (s : ℕ) (h : Header) (date : TradeDate) (asked content out : List ℕ)
    (P : Wrote Sender LoggedIn → Type 0) where
  login-with : ((r : Refusal) → P (wrote e (Err r) out)) →
      (LoginTests e s h date asked content out → P (answered e s (start_of e date (resume_of asked)) content out))
      → P (login_with e s h date asked content out)
  unfolding login_with
  login-with f g =
      by-when P (wrong_run content packet_content) (λ q. f FieldRun) λ q1.
      by-when P (wrong_width asked || wrong_width content) (λ q. f FieldLength) λ q2.
      by-when P (wrong_item asked || wrong_item content) (λ q. f Item) λ q3.
      by-when P
      (no_login h || not (composed login_tid Up asked) || ltb 1 (count_of resume_fid asked) || not
      (composed login_tid Down content)) (λ q. f Composition) λ q4.
      by-when P (not (is_served e s) || start_elsewhere s (resume_of asked)) (λ q. f UnknownSeries) λ q5.
      by-when P (before e.day.date date) (λ q. f OtherDay) λ q6.
      by-when P (not_zero h) (λ q. f OutOfLine) λ q7.
      by-when P (ltb (length out) (length (login_bytes e.day.date content))) (λ q. f TooSmall) λ q8.
      by-when P (wrong_start e s (start_of e date (resume_of asked))) (λ q. f WrongStart) λ q9.
      let a = or-neither (not (is_served e s)) (start_elsewhere s (resume_of asked)) q5 in
      let b =
      or-neither (eqb (start_of e date (resume_of asked)) 0) (ltb (published_of e s + 1) (start_of e date (resume_of asked)))
      q9 in
      g record {
        run = not-false _ q1;
        widths = q2;
        items = q3;
        counts = q4;
        served = not-false _ a.0;
        here = a.1;
        timely = q6;
        zeros = q7;
        room = ltb-false (length out) (length (login_bytes e.day.date content)) q8;
        from_one = positive (start_of e date (resume_of asked)) (eqb-false (start_of e date (resume_of asked)) 0 b.0);
        behind = ltb-false (published_of e s + 1) (start_of e date (resume_of asked)) b.1;
      }
    where
      positive : (n : ℕ) → (n ≡ 0 → ⊥) → 1 ≤ n
      positive n h = omega arith

module _ (e : Sender) (s : ℕ) (p content out : List ℕ) where
  login-read : (q : Packet) → not_one_packet p ≡ false → no_message_packet p ≡ false → (dated_of p).packet ≡ q →
      LoginDone e s p content out (login_read e s p content out (dated_of p).date q)
  login-read (Short n) a b g = login-refused NotOnePacket
  login-read (Link kind extension) a b g = login-refused NotOnePacket
  login-read (Skipped kind extension body) a b g = login-refused NotOnePacket
  login-read (Message h x c) a b g =
      login-with e s h (dated_of p).date (part p c.start c.len) content out (LoginDone e s p content out)
      login-refused (login-taken h x c a b g)
  login-read (Unread r) a b g = login-refused r

  pub login-cases : LoginDone e s p content out (login_of e s p content out)
  unfolding login_of
  login-cases =
      by-when (LoginDone e s p content out) (not_one_packet p || no_message_packet p) (λ q. login-refused NotOnePacket) λ q.
      let h = or-neither (not_one_packet p) (no_message_packet p) q in
      login-read (dated_of p).packet h.0 h.1 refl

-- ─── Send ───

-- The series is open and logged in.
pub record Seated (e : Sender) (s : ℕ) : Type 0 where
  pub served : is_served e s ≡ true
  pub login : (place_of e s).login ≡ true

pub data SendDone (e : Sender) (s : ℕ) (log out : List ℕ) : Wrote Sender SendAnswer → Type 0 where
  send-unknown : is_served e s ≡ false → SendDone e s log out (wrote e (Err UnknownSeries) out)
  send-outside : is_served e s ≡ true → (place_of e s).login ≡ false
      → SendDone e s log out (wrote e (Err NotLoggedIn) out)
  send-drained : Seated e s → published_of e s < (place_of e s).next → SendDone e s log out (wrote e (Ok None) out)
  send-damaged : Seated e s → (place_of e s).next ≤ published_of e s → entry_of e log s (place_of e s).next ≡ none →
      SendDone e s log out (wrote e (Err DamagedLog) out)
  send-small : (x : List ℕ) → Seated e s → (place_of e s).next ≤ published_of e s
      → entry_of e log s (place_of e s).next ≡ some x →
      length out < length (send_bytes e s x) → SendDone e s log out (wrote e (Err TooSmall) out)
  send-taken : (x : List ℕ) → Seated e s → (place_of e s).next ≤ published_of e s
      → entry_of e log s (place_of e s).next ≡ some x →
      length (send_bytes e s x) ≤ length out →
      SendDone e s log out
      (wrote (with_place e s (suc (place_of e s).next) 0) (message_sent (place_of e s).next (length (send_bytes e s x)))
      (over (send_bytes e s x) out))

module _ (e : Sender) (s : ℕ) (log out : List ℕ) where
  pub none_left : is_none_left e s ≡ true → published_of e s < (place_of e s).next
  unfolding is_none_left
  none_left h = ltb-true (published_of e s) (place_of e s).next h

  pub some_left : is_none_left e s ≡ false → (place_of e s).next ≤ published_of e s
  unfolding is_none_left
  some_left h = ltb-false (published_of e s) (place_of e s).next h

  send-entry : (o : Option (List ℕ)) → Seated e s → (place_of e s).next ≤ published_of e s
      → entry_of e log s (place_of e s).next ≡ o →
      SendDone e s log out (send_entry e s out o)
  send-entry none r h g = send-damaged r h g
  send-entry (some x) r h g =
      by-when (SendDone e s log out) (ltb (length out) (length (send_bytes e s x)))
      (λ q. send-small x r h g (ltb-true (length out) (length (send_bytes e s x)) q)) λ q.
      send-taken x r h g (ltb-false (length out) (length (send_bytes e s x)) q)

  pub send-cases : SendDone e s log out (send_of e s log out)
  unfolding send_of
  send-cases =
      by-when (SendDone e s log out) (not (is_served e s)) (λ q. send-unknown (not-true _ q)) λ q1.
      by-when (SendDone e s log out) (not (place_of e s).login) (λ q. send-outside (not-false _ q1) (not-true _ q))
      λ q2.
      let r : Seated e s = record { served = not-false _ q1; login = not-false _ q2 } in
      by-when (SendDone e s log out) (is_none_left e s) (λ q. send-drained r (none_left q)) λ q3.
      send-entry (entry_of e log s (place_of e s).next) r (some_left q3) refl

-- ─── Send of one packet ───

pub data PacketDone (e : Sender) (s : ℕ) (log out : List ℕ) : Wrote Sender PacketSent → Type 0 where
  packet-unknown : is_served e s ≡ false → PacketDone e s log out (wrote e (Err UnknownSeries) out)
  packet-outside : is_served e s ≡ true → (place_of e s).login ≡ false
      → PacketDone e s log out (wrote e (Err NotLoggedIn) out)
  packet-drained : Seated e s → published_of e s < (place_of e s).next → PacketDone e s log out (wrote e (Ok None) out)
  packet-damaged : Seated e s → (place_of e s).next ≤ published_of e s → entry_of e log s (place_of e s).next ≡ none →
      PacketDone e s log out (wrote e (Err DamagedLog) out)
  packet-missing : (x : List ℕ) → Seated e s → (place_of e s).next ≤ published_of e s
      → entry_of e log s (place_of e s).next ≡ some x →
      length (send_packets e s x) ≤ (place_of e s).piece → PacketDone e s log out (wrote e (Err DamagedLog) out)
  packet-small : (x : List ℕ) → Seated e s → (place_of e s).next ≤ published_of e s
      → entry_of e log s (place_of e s).next ≡ some x → (place_of e s).piece < length (send_packets e s x) →
      length out < length (next_packet e s x) → PacketDone e s log out (wrote e (Err TooSmall) out)
  packet-taken : (x : List ℕ) → Seated e s → (place_of e s).next ≤ published_of e s
      → entry_of e log s (place_of e s).next ≡ some x → (place_of e s).piece < length (send_packets e s x) →
      length (next_packet e s x) ≤ length out →
      PacketDone e s log out
      (wrote (after_packet e s (last_packet e s x))
      (packet_sent (place_of e s).next (length (next_packet e s x)) (last_packet e s x)) (over (next_packet e s x) out))

module _ (e : Sender) (s : ℕ) (log out : List ℕ) where
  no-packet : (x : List ℕ) → no_packet e s x ≡ true → length (send_packets e s x) ≤ (place_of e s).piece
  unfolding no_packet
  no-packet x h = leb-true (length (send_packets e s x)) (place_of e s).piece h

  a-packet : (x : List ℕ) → no_packet e s x ≡ false → (place_of e s).piece < length (send_packets e s x)
  unfolding no_packet
  a-packet x h = leb-false (length (send_packets e s x)) (place_of e s).piece h

  packet-entry : (o : Option (List ℕ)) → Seated e s → (place_of e s).next ≤ published_of e s
      → entry_of e log s (place_of e s).next ≡ o →
      PacketDone e s log out (send_packet_entry e s out o)
  packet-entry none r h g = packet-damaged r h g
  packet-entry (some x) r h g =
      by-when (PacketDone e s log out) (no_packet e s x) (λ q. packet-missing x r h g (no-packet x q)) λ q1.
      by-when (PacketDone e s log out) (ltb (length out) (length (next_packet e s x)))
      (λ q. packet-small x r h g (a-packet x q1) (ltb-true (length out) (length (next_packet e s x)) q)) λ q.
      packet-taken x r h g (a-packet x q1) (ltb-false (length out) (length (next_packet e s x)) q)

  pub packet-cases : PacketDone e s log out (send_packet_of e s log out)
  unfolding send_packet_of
  packet-cases =
      by-when (PacketDone e s log out) (not (is_served e s)) (λ q. packet-unknown (not-true _ q)) λ q1.
      by-when (PacketDone e s log out) (not (place_of e s).login) (λ q. packet-outside (not-false _ q1) (not-true _ q))
      λ q2.
      let r : Seated e s = record { served = not-false _ q1; login = not-false _ q2 } in
      by-when (PacketDone e s log out) (is_none_left e s) (λ q. packet-drained r (none_left e s log out q)) λ q3.
      packet-entry (entry_of e log s (place_of e s).next) r (some_left e s log out q3) refl
