-- Definitions of private contracts: what the helpers of the box's calls promise each other. No call's promise names them.
use Rattle.std.specs.Prelude.{ℕ, ◌≡◌, List, Bool, cond, ◌&&◌}
use Rattle.ftd.specs.Types.{TradeDate}
use Rattle.ftd.specs.declared.packet.Span.{Span}
use Rattle.flow.specs.declared.sender.Day.{Day}
use Rattle.flow.specs.declared.sender.Sender.{Sender}
use Rattle.flow.specs.Types.{Opened}
use Rattle.flow.specs.declared.receiver.Receiver.{Receiver}
use Rattle.flow.specs.declared.receiver.Origin.{Origin}
use Rattle.flow.specs.declared.receiver.Received.{Received}
use Rattle.flow.specs.declared.receiver.Received.TheVariants.{Idle, Duplicate, Partial, Complete}
use Rattle.flow.specs.declared.receiver.Received.TheVariants.{Refused as NotTaken}
use Rattle.flow.specs.declared.receiver.Decision.{Decision}
use Rattle.flow.specs.Types.{Confirmed}
use Rattle.flow.specs.Ends.{Left, left, before, index_of, day_series, is_served, place_of}
use Rattle.flow.specs.Answers.{content_in}
use Rattle.flow.specs.Deciding.{copied_to, span_of}
use Rattle.relay.specs.declared.relay.Relay.{Relay}
use Rattle.relay.specs.declared.relay.ConfirmStep.{ConfirmStep}
use Rattle.relay.specs.declared.relay.ReceiveStep.{ReceiveStep}
use Rattle.relay.specs.State.{box_for, place_written}
use Rattle.relay.specs.Box.{AnswerWay, opening_way, answer_by, confirm_past}
use Rattle.relay.specs.Promises.{answered_numbers}
use Rattle.std.specs.Prelude.{Ok}

-- The way of an opening below that was tried.
abbrev pub opening_by : Left Sender Opened → AnswerWay
opening_by q = opening_way q q.answer

-- What an answer leaves that the receiving end took, leaving itself as `end` and reporting `last`, by the way the box
-- takes it.
abbrev pub AnsweredBy : Relay → List ℕ → Receiver → ℕ → AnswerWay → ConfirmStep → List ℕ → Type 0
AnsweredBy b seats end last way r after =
    let meant = answer_by (box_for b seats) (left end (Ok last)) way in
    (box_for r.end after ≡ meant.end) × (r.answer ≡ meant.answer) × (after ≡ answered_numbers seats way)

-- The place of a seat in an open series, as a serving end has it, is written.
abbrev pub kept_at : List ℕ → ℕ → ℕ → Sender → List ℕ
kept_at seats i s e = cond (is_served e s) (place_written seats i (index_of s (day_series e)) (place_of e s)) seats

-- Answer: 15 for a trade date before the day open below, where the receiving end came past its row 15.
abbrev pub late_answer : Confirmed → TradeDate → TradeDate → Bool
late_answer a date today = confirm_past a && before date today

-- ─── Receive ───

-- What was decided is kept, with a day below: the piece is copied.
abbrev pub KeepsBy : Relay → Day → Decision → List ℕ → List ℕ → ReceiveStep → List ℕ → Type 0
KeepsBy b day d p buffer r after =
    (r ≡ record { end = record { receiver = d.end; reserves = b.reserves; day = day }; answer = d.answer })
    × (after ≡ copied_to d.target (span_of p d.content) buffer)

-- The content of the message that was decided to be handed on: as it lies in the packet, or in the buffer once the piece
-- is copied.
abbrev pub handed_content : Decision → List ℕ → List ℕ → Origin → Span → List ℕ
handed_content d p buffer origin all = content_in p (copied_to d.target (span_of p d.content) buffer) origin all

-- An answer hands on a message of that TID, which lies there.
abbrev pub Hands : ℕ → Origin → Span → Received → Type 0
Hands tid origin all Idle = ⊥
Hands tid origin all (Duplicate n) = ⊥
Hands tid origin all (Partial n) = ⊥
Hands tid origin all (Complete n t o at) = (t ≡ tid) × (o ≡ origin) × (at ≡ all)
Hands tid origin all (NotTaken x) = ⊥
