-- A refusal changes nothing (demand 1; 01, "Refusal table": "A refusal returns its number and leaves all as before,
-- except that Receive from 15 on drops that series' chain"): of every call of both ends and of the checkpoints, for any
-- end and any input.
use Rattle.std.specs.Prelude.{ℕ, ◌<◌, ◌≤◌, ◌≡◌, List, true, false, set}
use Rattle.ftd.specs.Packet.{dated_of}
use Rattle.ftd.specs.Runs.{run_of}
use Rattle.ftd.specs.Chain.Laws.{packet_form}
use Rattle.flow.specs.declared.sender.Sender.{Sender}
use Rattle.flow.specs.declared.receiver.LiveSeries.{LiveSeries}
use Rattle.flow.specs.declared.receiver.Receiver.{Receiver}
use Rattle.flow.specs.declared.checkpoint.Checkpoints.{Checkpoints}
use Rattle.flow.specs.Ends.{Left, Wrote, index_of, kept_series, is_open, live_of}
use Rattle.flow.specs.Answers.{Said, refused, opened_said, published_said, login_said, sent_said, sent_packet_said}
use Rattle.flow.specs.Answers.{requested_said, confirmed_said, received_said, saved_said, restored_said}
use Rattle.flow.specs.Serving.{open_day_of, publish_of, login_of, send_of, send_packet_of}
use Rattle.flow.specs.Receiving.{open_end_of, request_login_of, confirm_login_of, receive_of}
use Rattle.flow.specs.Checkpoints.{keep_of, restore_of}
use Rattle.flow.specs.World.{series_in}
use Rattle.flow.specs.Several.{stopped, receiving, publishing, received_told, published_told, receive_several_of}
use Rattle.flow.specs.Several.{record_form, publish_several_of}
use Rattle.flow.specs.Bufferful.{each, StoppedAt}

-- ─── Refused by the paper's word, with any number: what was given is left ───

-- Of a call that writes no lent bytes, and of one that may.
abbrev pub Stays : {E A : Type 0} → (A → Said) → E → Left E A → Type 0
Stays said e r = (n : ℕ) → said r.answer ≡ refused n → r.end ≡ e

abbrev pub StaysWith : {E A : Type 0} → (A → Said) → E → List ℕ → Wrote E A → Type 0
StaysWith said e l r = (n : ℕ) → said r.answer ≡ refused n → (r.end ≡ e) × (r.bytes ≡ l)

-- Logged in, and nothing else.
abbrev pub login_alone : LiveSeries
login_alone = record { login = true; chain = false; tid = 0; held = 0; pieces = 0 }

-- Receive from 15 on, of a series that is open and logged in: all that is kept stays, every other place of this
-- connection stays, and of that series the login; its chain is dropped, and with it TID, bytes and pieces held.
pub record ChainDropped (e after : Receiver) (s : ℕ) : Type 0 where
  pub opens : is_open e s ≡ true
  pub kept : after.kept ≡ e.kept
  pub places : after.live.series ≡ set e.live.series (index_of s (kept_series e)) login_alone
  pub login : ((live_of e s).login ≡ true) × ((live_of after s).login ≡ true)
  pub chain : live_of after s ≡ login_alone
  pub others : (t : ℕ) → (t ≡ s → ⊥) → live_of after t ≡ live_of e t

-- Receive, by the number of the refusal.
abbrev pub ReceiveStays : Receiver → List ℕ → List ℕ → Receiver → List ℕ → ℕ → Type 0
ReceiveStays e p buffer after bytes n =
    (bytes ≡ buffer)
    × (n < 15 → after ≡ e)
    × (15 ≤ n → ChainDropped e after (series_in (dated_of p).packet))

pub record RefusalsLeave : Type 0 where
  -- The serving end.
  pub open-day : (e : Sender) (date : ℕ) (ss rs log : List ℕ) → Stays opened_said e (open_day_of e date ss rs log)
  pub publish : (e : Sender) (s tid : ℕ) (content log : List ℕ)
      → StaysWith published_said e log (publish_of e s tid content log)
  pub login : (e : Sender) (s : ℕ) (p content out : List ℕ) → StaysWith login_said e out (login_of e s p content out)
  pub send : (e : Sender) (s : ℕ) (log out : List ℕ) → StaysWith sent_said e out (send_of e s log out)
  pub send-packet : (e : Sender) (s : ℕ) (log out : List ℕ)
      → StaysWith sent_packet_said e out (send_packet_of e s log out)
  -- The receiving end; Connect is never refused.
  pub open-end : (e : Receiver) (ss : List ℕ) → Stays opened_said e (open_end_of e ss)
  pub ask : (e : Receiver) (s : ℕ) (content out : List ℕ)
      → StaysWith requested_said e out (request_login_of e s content out)
  pub answer : (e : Receiver) (s : ℕ) (p : List ℕ) → Stays confirmed_said e (confirm_login_of e s p)
  pub receive : (e : Receiver) (p buffer : List ℕ) (n : ℕ) →
      let r = receive_of e p buffer in
      received_said p r.bytes r.answer ≡ refused n → ReceiveStays e p buffer r.end r.bytes n
  -- The checkpoints: keeping leaves them, and return leaves the end.
  pub keep : (c : Checkpoints) (e : Receiver) (name : List ℕ) → Stays saved_said c (keep_of c e name)
  pub restore : (c : Checkpoints) (e : Receiver) (name : List ℕ) → Stays restored_said e (restore_of c e name)
  -- A bufferful that stops at a refusal: end and lent bytes are as the inputs before the refused one left them, in each
  -- of its single calls; but for the chain that Receive drops from 15 on.
  pub packets : (e : Receiver) (bytes buffer : List ℕ) (n : ℕ) →
      let many = receive_several_of e bytes buffer in
      received_told bytes many.bytes many.answer ≡ stopped (refused n)
      → (t : StoppedAt receiving e buffer 0 (run_of packet_form bytes).entries many (refused n))
      × ReceiveStays (each receiving e buffer t.before).end t.input (each receiving e buffer t.before).bytes
      many.end many.bytes n
  pub records : (e : Sender) (bytes log : List ℕ) (n : ℕ) →
      let many = publish_several_of e bytes log in
      published_told bytes many.bytes many.answer ≡ stopped (refused n)
      → (t : StoppedAt publishing e log 0 (run_of record_form bytes).entries many (refused n))
      × (many.end ≡ (each publishing e log t.before).end)
      × (many.bytes ≡ (each publishing e log t.before).bytes)
