-- A refusal changes nothing (01, refusal table: "leaves all as before, except that Receive from 15 on drops that
-- series' chain"; 02, No. 3: a message whose publication is refused isn't taken, "and only its chain is dropped"): of
-- every call of the box, of any box and bytes. The order with another (02, No. 14) is an answer alone: it leaves no box
-- and is lent nothing to write.
use Rattle.std.specs.Prelude.{ℕ, ◌≡◌, List, [], Bool, true, false, ◌||◌, set, leb}
use Rattle.ftd.specs.Runs.{run_of}
use Rattle.ftd.specs.Chain.Laws.{packet_form}
use Rattle.flow.specs.Types.{LoggedIn}
use Rattle.flow.specs.declared.receiver.Receiver.{Receiver}
use Rattle.flow.specs.Types.{Requested}
use Rattle.flow.specs.Ends.{index_of, is_open, live_of, kept_series, logged_in}
use Rattle.flow.specs.Answers.{refused, is_taken, message_in, opened_said, requested_said, confirmed_said, received_said}
use Rattle.flow.specs.Answers.{login_said, sent_said, sent_packet_said}
use Rattle.flow.specs.Several.{stopped, received_told}
use Rattle.flow.specs.Bufferful.{StoppedAt}
use Rattle.relay.specs.declared.relay.Relay.{Relay}
use Rattle.relay.specs.declared.relay.OpenStep.{OpenStep}
use Rattle.relay.specs.declared.relay.ConfirmStep.{ConfirmStep}
use Rattle.relay.specs.declared.relay.ReceiveStep.{ReceiveStep}
use Rattle.relay.specs.State.{Box, box_for}
use Rattle.relay.specs.Box.{with_receiver, ask_of, login_seat_of, send_seat_of, send_packet_seat_of}
use Rattle.relay.specs.Seats.{BoxCall, opening, connect, ask, answer, receive, login, send, send_packet, Standing}
use Rattle.relay.specs.Seats.{standing, after, shows}
use Rattle.relay.specs.Calls.{Shaped, any, is_receiving, borne, end_says, OnlyChain}
use Rattle.relay.specs.Promises.{OpensBox, AsksBox, ConfirmsBox, ReceivesBox, LogsInSeat, SendsSeat, SendsPacketSeat}
use Rattle.relay.specs.Bufferful.{logged, relaying, receive_several_box_of}
use Rattle.flow.specs.Types.{SendAnswer, PacketSent}

-- ─── The output that a call is lent ───

-- As it was given; none where the call has none.
abbrev pub output_before : BoxCall → List ℕ
output_before (opening ss rs) = []
output_before connect = []
output_before (ask s content out) = out
output_before (answer s p) = []
output_before (receive p) = []
output_before (login i s p content out) = out
output_before (send i s out) = out
output_before (send_packet i s out) = out

-- Every byte of it afterwards.
abbrev pub output_after : Standing → BoxCall → List ℕ
output_after x (opening ss rs) = []
output_after x connect = []
output_after x (ask s content out) = (ask_of x.box s content out).bytes
output_after x (answer s p) = []
output_after x (receive p) = []
output_after x (login i s p content out) = (login_seat_of x.box i s p content out).bytes
output_after x (send i s out) = (send_seat_of x.box i s x.log out).bytes
output_after x (send_packet i s out) = (send_packet_seat_of x.box i s x.log out).bytes

-- ─── Receive ───

-- A refusal with this number drops the chain: from 15 on, and where the receiving end handed a message on, whose
-- publication it then is that is refused.
abbrev pub drops_chain : Box → List ℕ → List ℕ → ℕ → Bool
drops_chain b p buffer n = leb 15 n || any (message_in (end_says b p buffer))

-- The receiving end without the chain of a series: logged in it is still.
abbrev pub cleared : Receiver → ℕ → Receiver
cleared e s =
    record {
      kept = e.kept;
      live = record { series = set e.live.series (index_of s (kept_series e)) logged_in };
    }

-- From x to y the chain of series s is cleared and nothing else: marks and last numbers, every other series' login and
-- chain, reserves, day, seats, every byte of log and chain buffer stay. The series was open and logged in.
pub record ChainAlone (x y : Standing) (s : ℕ) : Type 0 where
  pub was-open : is_open x.box.receiver s ≡ true
  pub was-in : (live_of x.box.receiver s).login ≡ true
  pub stays : y ≡ standing (with_receiver x.box (cleared x.box.receiver s)) x.log x.buffer

-- ─── The statement ───

pub record RefusalsLeave : Type 0 where
  -- Every call but Receive: box, log, chain buffer and every byte of the output are as they were.
  pub stands : (x : Standing) (c : BoxCall) → is_receiving c ≡ false → is_taken (shows x c).said ≡ false → after x c ≡ x
  pub output : (x : Standing) (c : BoxCall) → is_taken (shows x c).said ≡ false → output_after x c ≡ output_before c
  -- Receive: all is as it was, or but for the chain.
  pub receive-stands : (x : Standing) (p : List ℕ) (n : ℕ) → (shows x (receive p)).said ≡ refused n
      → drops_chain x.box p x.buffer n ≡ false → after x (receive p) ≡ x
  pub receive-drops : (x : Standing) (p : List ℕ) (n : ℕ) → (shows x (receive p)).said ≡ refused n
      → drops_chain x.box p x.buffer n ≡ true → ChainAlone x (after x (receive p)) (borne p)
  -- Looked up by series, where each array has its places.
  pub receive-others : (x : Standing) (p : List ℕ) (n : ℕ) → Shaped x.box → (shows x (receive p)).said ≡ refused n
      → drops_chain x.box p x.buffer n ≡ true → OnlyChain x (after x (receive p)) (borne p)
  -- A bufferful (02, No. 8) that stops at a refusal: box, log and chain buffer are what Receive for the refused packet
  -- left of what those before it had left.
  pub several : (b : Box) (bytes log buffer : List ℕ) (n : ℕ) →
      let r = receive_several_box_of b bytes log buffer in
      received_told bytes r.bytes r.answer ≡ stopped (refused n)
      → StoppedAt relaying (logged b log) buffer 0 (run_of packet_form bytes).entries r (refused n)
  -- Of the code, by its promises: its state, the numbers of the seats that are lent, and every byte.
  pub open_code : (b : Relay) (series reserves : List ℕ) (r : OpenStep) → OpensBox b series reserves r
      → is_taken (opened_said r.answer) ≡ false → r.end ≡ b
  pub ask-code : (b : Relay) (s : ℕ) (content out : List ℕ) (r : Requested) (later : List ℕ)
      → AsksBox b s content out r later → is_taken (requested_said r) ≡ false → later ≡ out
  pub answer-code : (b : Relay) (seats : List ℕ) (s : ℕ) (p log : List ℕ) (r : ConfirmStep) (later : List ℕ)
      → ConfirmsBox b seats s p log r later → is_taken (confirmed_said r.answer) ≡ false
      → (r.end ≡ b) × (later ≡ seats)
  pub receive-code : (b : Relay) (p log buffer : List ℕ) (r : ReceiveStep) (later_log later_buffer : List ℕ)
      → ReceivesBox b p log buffer r later_log later_buffer → (n : ℕ)
      → received_said p later_buffer r.answer ≡ refused n →
      (later_log ≡ log)
      × (later_buffer ≡ buffer)
      × (drops_chain (box_for b []) p buffer n ≡ false → r.end ≡ b)
      × (drops_chain (box_for b []) p buffer n ≡ true
      → r.end ≡ record { receiver = cleared b.receiver (borne p); reserves = b.reserves; day = b.day })
  pub login-code : (b : Relay) (seats : List ℕ) (i s : ℕ) (p content out : List ℕ) (r : LoggedIn)
      (later_seats later : List ℕ) → LogsInSeat b seats i s p content out r later_seats later
      → is_taken (login_said r) ≡ false → (later_seats ≡ seats) × (later ≡ out)
  pub send-code : (b : Relay) (seats : List ℕ) (i s : ℕ) (log out : List ℕ) (r : SendAnswer) (later_seats later : List ℕ)
      → SendsSeat b seats i s log out r later_seats later
      → is_taken (sent_said r) ≡ false → (later_seats ≡ seats) × (later ≡ out)
  pub send-packet-code : (b : Relay) (seats : List ℕ) (i s : ℕ) (log out : List ℕ) (r : PacketSent)
      (later_seats later : List ℕ) → SendsPacketSeat b seats i s log out r later_seats later
      → is_taken (sent_packet_said r) ≡ false → (later_seats ≡ seats) × (later ≡ out)
