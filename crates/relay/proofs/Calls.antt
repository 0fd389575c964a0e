-- What the serving end's calls take from a seat, and what they leave of it and of the day. Assumes nothing.
use Prim.Native.Nat.{ℕ, ◌+◌}
use native.Mathlib.Omega.{arith}
use mathlib.Core.Path.{◌≡◌, refl, ap, sym}
use mathlib.Core.List.{List}
use mathlib.Core.Bool.{Bool, true, false, not, ◌||◌}
use lib.ListN.{length}
use lib.Dec.{leb}
use Rattle.ftd.specs.Bytes.{put}
use Rattle.ftd.specs.Fields.{most_content}
use Rattle.ftd.specs.Items.{wrong_width, wrong_item}
use Rattle.ftd.specs.Composition.{composed}
use Rattle.ftd.specs.declared.composition.Direction.TheVariants.{Down}
use Rattle.ftd.specs.declared.refusal.Refusal.TheVariants.{FieldRun, FieldLength, Item, Composition, Opening}
use Rattle.ftd.specs.declared.refusal.Refusal.TheVariants.{UnknownSeries, DamagedLog, TooSmall, DayFull}
use Rattle.flow.specs.declared.sender.Day.{Day}
use Rattle.flow.specs.declared.sender.Seat.{Seat}
use Rattle.flow.specs.declared.sender.Sender.{Sender}
use Rattle.flow.specs.Types.{Published}
use Rattle.flow.specs.Types.{LoggedIn}
use Rattle.flow.specs.Ends.{◌when◌else◌, left, Wrote, wrote, most_messages, is_served, day_series, published_of, with_entry}
use Rattle.flow.specs.Ends.{with_place, reserve_of, used_of, shares_of, wrong_series, up_to}
use Rattle.flow.specs.Log.{entry_bytes, log_short, entry_fits}
use Rattle.flow.specs.Serving.{wrong_run, wrong_reserves, over_shares, last_packet, after_packet, open_day_of, publish_of, login_of}
use Rattle.flow.specs.Serving.{send_of, send_packet_of}
use Rattle.flow.proofs.ends.SenderOpened.{opened_sender}
use Rattle.flow.proofs.calls.Serving.{PublishDone, publish-refused, publish-taken, publish-cases}
use Rattle.flow.proofs.calls.Serving.{LoginDone, login-refused, login-taken, login-cases, SendDone, send-unknown}
use Rattle.flow.proofs.calls.Serving.{send-outside, send-drained}
use Rattle.flow.proofs.calls.Serving.{send-damaged, send-small, send-taken, send-cases, PacketDone, packet-unknown}
use Rattle.flow.proofs.calls.Serving.{packet-outside, packet-drained, packet-damaged, packet-missing, packet-small}
use Rattle.flow.proofs.calls.Serving.{packet-taken, packet-cases}
use Rattle.relay.specs.Box.{server_of}
use Rattle.std.specs.Prelude.{Ok, Err}
use Rattle.flow.specs.Types.{SendAnswer, PacketSent}

-- ─── Publish: looks at no seat, and leaves it ───

-- What it left, with another seat.
abbrev pub reseated : Seat → Wrote Sender Published → Wrote Sender Published
reseated x q = wrote (server_of q.end.day x) q.answer q.bytes

abbrev row : Sender → ℕ → ℕ → List ℕ → List ℕ → Bool → Bool → Bool → Bool → Bool → Bool → Bool → Bool
    → Wrote Sender Published
row e s tid content log a b c d f g h i =
    wrote e (Err FieldRun) log when a else
    wrote e (Err FieldLength) log when b else
    wrote e (Err Item) log when c else
    wrote e (Err Composition) log when d else
    wrote e (Err UnknownSeries) log when f else
    wrote e (Err DamagedLog) log when g else
    wrote e (Err TooSmall) log when h else
    wrote e (Err DayFull) log when i else
    wrote (with_entry e s (16 + length content)) (Ok (published_of e s + 1))
    (put log e.day.used (entry_bytes s tid (published_of e s + 1) content))

module _ (D : Day) (X Y : Seat) (s tid : ℕ) (content log : List ℕ) where
  rows : (a b c d f g h i : Bool)
      → row (server_of D X) s tid content log a b c d f g h i ≡ reseated X
      (row (server_of D Y) s tid content log a b c d f g h i)
  unfolding with_entry published_of reserve_of used_of day_series
  rows true b c d f g h i = refl
  rows false true c d f g h i = refl
  rows false false true d f g h i = refl
  rows false false false true f g h i = refl
  rows false false false false true g h i = refl
  rows false false false false false true h i = refl
  rows false false false false false false true i = refl
  rows false false false false false false false true = refl
  rows false false false false false false false false = refl

  pub publish-seat : publish_of (server_of D X) s tid content log ≡ reseated X
      (publish_of (server_of D Y) s tid content log)
  unfolding publish_of is_served day_series log_short entry_fits published_of reserve_of used_of with_entry shares_of
  publish-seat =
      rows (wrong_run content most_content) (wrong_width content) (wrong_item content) (not (composed tid Down content))
      (not (is_served (server_of D Y) s)) (log_short (server_of D Y) log)
      (not (entry_fits (server_of D Y) log content) || over_shares (server_of D Y) s log content)
      (leb most_messages (published_of (server_of D Y) s))

-- The trade date stays.
entry-date : (e : Sender) (s n : ℕ) → (with_entry e s n).day.date ≡ e.day.date
unfolding with_entry
entry-date e s n = refl

pub publish-date : (e : Sender) (s tid : ℕ) (content log : List ℕ)
    → (publish_of e s tid content log).end.day.date ≡ e.day.date
publish-date e s tid content log = go (publish_of e s tid content log) (publish-cases e s tid content log)
  where
    go : (r : Wrote Sender Published) → PublishDone e s tid content log r → r.end.day.date ≡ e.day.date
    go r (publish-refused x) = refl
    go r (publish-taken t) = entry-date e s _

-- ─── Opening: one that is taken leaves the same whatever the seat ───

module _ (D : Day) (X Y : Seat) (d : ℕ) (ss rs log : List ℕ) where
  open-rows : (b : Bool)
      → (left (server_of D X) (Err Opening) when b else left (opened_sender d ss rs) (Ok (tt {0}))).answer ≡ (Ok (tt {0}))
      → (left (server_of D Y) (Err Opening) when b else left (opened_sender d ss rs) (Ok (tt {0})))
      ≡ (left (server_of D X) (Err Opening) when b else left (opened_sender d ss rs) (Ok (tt {0})))
  open-rows true q = let z : ◌≡◌ {A = ℕ} 0 1 = cc in absurd (omega arith)
  open-rows false q = refl

  pub open-seat : (open_day_of (server_of D X) d ss rs log).answer ≡ (Ok (tt {0}))
      → open_day_of (server_of D Y) d ss rs log ≡ open_day_of (server_of D X) d ss rs log
  unfolding open_day_of
  open-seat q = open-rows (wrong_series ss || up_to d D.date || wrong_reserves ss rs log) q

-- ─── Login and the Sends: leave the day ───

next-day : (e : Sender) (s n k : ℕ) → (with_place e s n k).day ≡ e.day
unfolding with_place
next-day e s n k = refl

packet-next : (e : Sender) (s : ℕ) (last : Bool) → (after_packet e s last).day ≡ e.day
unfolding after_packet
packet-next e s true = next-day e s _ _
packet-next e s false = next-day e s _ _

module _ (e : Sender) (s : ℕ) where
  pub login-day : (p content out : List ℕ) → (login_of e s p content out).end.day ≡ e.day
  login-day p content out = go (login_of e s p content out) (login-cases e s p content out)
    where
      go : (r : Wrote Sender LoggedIn) → LoginDone e s p content out r → r.end.day ≡ e.day
      go r (login-refused x) = refl
      go r (login-taken h x c a b g t) = next-day e s _ _

  pub send-day : (log out : List ℕ) → (send_of e s log out).end.day ≡ e.day
  send-day log out = go (send_of e s log out) (send-cases e s log out)
    where
      go : (r : Wrote Sender SendAnswer) → SendDone e s log out r → r.end.day ≡ e.day
      go r (send-unknown a) = refl
      go r (send-outside a b) = refl
      go r (send-drained a b) = refl
      go r (send-damaged a b c) = refl
      go r (send-small x a b c d) = refl
      go r (send-taken x a b c d) = next-day e s _ _

  pub packet-day : (log out : List ℕ) → (send_packet_of e s log out).end.day ≡ e.day
  packet-day log out = go (send_packet_of e s log out) (packet-cases e s log out)
    where
      go : (r : Wrote Sender PacketSent) → PacketDone e s log out r → r.end.day ≡ e.day
      go r (packet-unknown a) = refl
      go r (packet-outside a b) = refl
      go r (packet-drained a b) = refl
      go r (packet-damaged a b c) = refl
      go r (packet-missing x a b c d) = refl
      go r (packet-small x a b c d f) = refl
      go r (packet-taken x a b c d f) = packet-next e s (last_packet e s x)

-- As a whole.
pub login-end : (D : Day) (X : Seat) (s : ℕ) (p content out : List ℕ) →
    let r = login_of (server_of D X) s p content out in
    server_of D r.end.seat ≡ r.end
login-end D X s p content out =
    let r = login_of (server_of D X) s p content out in
    ap (λ (y : Day). server_of y r.end.seat) (sym (login-day (server_of D X) s p content out))

pub send-end : (D : Day) (X : Seat) (s : ℕ) (log out : List ℕ) →
    let r = send_of (server_of D X) s log out in
    server_of D r.end.seat ≡ r.end
send-end D X s log out =
    let r = send_of (server_of D X) s log out in
    ap (λ (y : Day). server_of y r.end.seat) (sym (send-day (server_of D X) s log out))

pub packet-end : (D : Day) (X : Seat) (s : ℕ) (log out : List ℕ) →
    let r = send_packet_of (server_of D X) s log out in
    server_of D r.end.seat ≡ r.end
packet-end D X s log out =
    let r = send_packet_of (server_of D X) s log out in
    ap (λ (y : Day). server_of y r.end.seat) (sym (packet-day (server_of D X) s log out))
