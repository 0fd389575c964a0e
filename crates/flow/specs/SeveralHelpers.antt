-- Definitions of private contracts of src/several.rt. No call's promise names them.
use Rattle.std.specs.Prelude.{ℕ, ◌+◌, ◌≤◌, List, drop}
use Rattle.std.proofs.Math.Option.{Option, none, some}
use Rattle.ftd.specs.Bytes.{be16_of, be32_of}
use Rattle.flow.specs.declared.sender.Sender.{Sender}
use Rattle.flow.specs.declared.sender.PublishStep.{PublishStep}
use Rattle.flow.specs.declared.receiver.Origin.{Origin}
use Rattle.flow.specs.declared.receiver.Origin.TheVariants.{Packet, Buffer}
use Rattle.flow.specs.declared.receiver.Received.{Received}
use Rattle.flow.specs.declared.receiver.Received.TheVariants.{Idle, Duplicate, Partial, Complete}
use Rattle.flow.specs.declared.receiver.Received.TheVariants.{Refused as NotTaken}
use Rattle.ftd.specs.declared.packet.Span.{Span}
use Rattle.flow.specs.declared.several.ReceivedSeveral.{ReceivedSeveral}
use Rattle.flow.specs.Types.{ReceiveTurn}
use Rattle.flow.specs.Promises.{Publishes}
use Rattle.std.specs.Prelude.{Some, None}

-- A turn as an answer to stop at, if any.
abbrev pub turn_stop : ReceiveTurn → Option ReceivedSeveral
turn_stop None = none
turn_stop (Some a) = some a

-- A content that lies in the packet lies in its n bytes.
abbrev pub LiesIn : ℕ → Origin → Span → Type 0
LiesIn n Packet c = c.start + c.len ≤ n
LiesIn n Buffer c = Unit

abbrev pub AnswerIn : ℕ → Received → Type 0
AnswerIn n Idle = Unit
AnswerIn n (Duplicate k) = Unit
AnswerIn n (Partial k) = Unit
AnswerIn n (Complete k tid origin c) = LiesIn n origin c
AnswerIn n (NotTaken r) = Unit

-- Publish of a record: Publish of its series, TID and content.
abbrev pub PublishesRecord : Sender → List ℕ → List ℕ → PublishStep → List ℕ → Type 0
PublishesRecord e x log r after = Publishes e (be16_of x 0) (be32_of x 2) (drop 10 x) log r after
