-- A bufferful from above at the box (02, No. 8): its Receive for packet after packet, up to the first message handed on or
-- refusal, a short rest or the end. A refused publication is a refusal: its packet is taken as bytes, not as a message.
use Rattle.std.specs.Prelude.{ℕ, ◌≡◌, List}
use Rattle.ftd.specs.Packet.{missing_of}
use Rattle.ftd.specs.Chain.Laws.{packet_form}
use Rattle.flow.specs.declared.receiver.Received.{Received}
use Rattle.flow.specs.declared.several.ReceivedSeveral.{ReceivedSeveral}
use Rattle.flow.specs.declared.several.ReceivedSeveral.TheVariants.{End, Short}
use Rattle.flow.specs.Ends.{Wrote, wrote}
use Rattle.flow.specs.Answers.{received_said}
use Rattle.flow.specs.Several.{Repeated, Took, several_of, received_stops, received_told}
use Rattle.flow.specs.Bufferful.{OneByOne}
use Rattle.relay.specs.declared.relay.Relay.{Relay}
use Rattle.relay.specs.declared.several.ReceiveSeveralStep.{ReceiveSeveralStep}
use Rattle.relay.specs.State.{Box, box_for}
use Rattle.relay.specs.Box.{receive_box_of}

-- The box with its log: both change from packet to packet.
pub record Logged : Type 0 where
  pub box : Box
  pub log : List ℕ

abbrev pub logged : Box → List ℕ → Logged
logged b log = record { box = b; log = log }

abbrev pub relay_one : Logged → List ℕ → List ℕ → Wrote Logged Received
relay_one x p buffer =
    let r = receive_box_of x.box p x.log buffer in
    wrote (logged r.end r.log) r.answer r.buffer

abbrev pub relaying : Repeated Logged Received ReceivedSeveral
relaying =
    record {
      form = packet_form;
      call = relay_one;
      stops = received_stops;
      missing = missing_of;
      ended = End;
      cut = Short;
      said = received_said;
      told = received_told;
    }

abbrev pub receive_several_box_of : Box → List ℕ → List ℕ → List ℕ → Took Logged ReceivedSeveral
receive_several_box_of b bytes log buffer = several_of relaying (logged b log) bytes buffer

-- The form of its promise, of any numbers of the seats.
abbrev pub ReceivesSeveralBox : Relay → List ℕ → List ℕ → List ℕ → ReceiveSeveralStep → List ℕ → List ℕ → Type 0
ReceivesSeveralBox b packets log buffer r after_log after_buffer =
    (seats : List ℕ) → let meant = receive_several_box_of (box_for b seats) packets log buffer in
    (box_for r.end seats ≡ meant.end.box)
    × (received_told packets after_buffer r.answer ≡ received_told packets meant.bytes meant.answer)
    × (r.answer ≡ meant.answer)
    × (r.taken ≡ meant.taken)
    × (after_log ≡ meant.end.log)
    × (after_buffer ≡ meant.bytes)

-- ─── The statement ───

-- Called until it is through, it is Receive of the box for each packet that the bytes cut into; a packet's head are four
-- bytes.
pub record BoxBufferful : Type 0 where
  pub packets : OneByOne relaying
  pub head : relaying.form.head ≡ 4
