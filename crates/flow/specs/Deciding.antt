-- Receive cut in two (02, No. 3): what it decides before a byte is written, for an end that takes nothing of a day
-- before some trade date; and the copying of the piece.
use Rattle.std.specs.Prelude.{ℕ, ◌+◌, ◌≤◌, ◌≡◌, List, Bool, true, false, ◌&&◌, length, ltb, leb}
use Rattle.ftd.specs.Bytes.{part, put}
use Rattle.ftd.specs.Packet.{dated_of}
use Rattle.ftd.specs.Refusal.{number_of}
use Rattle.ftd.specs.declared.packet.Span.{Span}
use Rattle.ftd.specs.declared.refusal.Refusal.{Refusal}
use Rattle.ftd.specs.declared.refusal.Refusal.TheVariants.{OtherDay}
use Rattle.ftd.specs.Types.{TradeDate}
use Rattle.flow.specs.declared.receiver.Receiver.{Receiver}
use Rattle.flow.specs.declared.receiver.Origin.TheVariants.{Packet as FromPacket, Buffer as FromBuffer}
use Rattle.flow.specs.declared.receiver.Received.{Received}
use Rattle.flow.specs.declared.receiver.Received.TheVariants.{Idle, Duplicate, Partial, Complete}
use Rattle.flow.specs.declared.receiver.Received.TheVariants.{Refused as NotTaken}
use Rattle.flow.specs.Types.{Target}
use Rattle.flow.specs.declared.receiver.Decision.{Decision}
use Rattle.flow.specs.Ends.{◌when◌else◌, Wrote, wrote, before, is_open, kept_of}
use Rattle.flow.specs.Receiving.{receive_of, dropped}
use Rattle.flow.specs.World.{series_in}
use Rattle.std.specs.Prelude.{Some, None}

-- ─── 15 for a day before some trade date ───

-- The end came past its row 15: it took the packet, or refused it with a number above 15.
abbrev pub past_day : Refusal → Bool
past_day x = ltb 15 (number_of x)

abbrev pub receive_past : Received → Bool
receive_past Idle = false
receive_past (Duplicate n) = true
receive_past (Partial n) = true
receive_past (Complete n tid origin at) = true
receive_past (NotTaken x) = past_day x

-- Receive of an end that takes nothing of a day before `floor`: where the series' trade date is below it, what came
-- past row 15 is 15, and drops the chain. With no trade date it is Receive.
unfoldable pub receive_from : TradeDate → Receiver → List ℕ → List ℕ → Wrote Receiver Received
receive_from floor e p buffer =
    let r = receive_of e p buffer in
    let s = series_in (dated_of p).packet in
    wrote (dropped e s) (NotTaken OtherDay) buffer when receive_past r.answer && before (kept_of e s).date floor else r

-- ─── The piece that is copied ───

-- Behind the bytes that are held, at a place of the buffer; nothing where it does not fit there.
abbrev pub copied_to : Target → List ℕ → List ℕ → List ℕ
copied_to None content buffer = buffer
copied_to (Some n) content buffer = put buffer n content when leb (n + length content) (length buffer) else buffer

abbrev pub span_of : List ℕ → Span → List ℕ
span_of l at = part l at.start at.len

-- Where the content of a message lies that is handed on: in the packet; or in a part of the buffer of which the last
-- bytes are the piece that is copied.
abbrev pub EndsIn : Span → ℕ → List ℕ → Target → Type 0
EndsIn all more buffer None = ⊥
EndsIn all more buffer (Some n) =
    (all.start ≤ n) × (n + more ≡ all.start + all.len) × (n + more ≤ length buffer)

abbrev pub LiesAt : Decision → List ℕ → Received → Type 0
LiesAt r buffer Idle = Unit
LiesAt r buffer (Duplicate n) = Unit
LiesAt r buffer (Partial n) = Unit
LiesAt r buffer (Complete n tid FromPacket all) = (all ≡ r.content) × (r.target ≡ None)
LiesAt r buffer (Complete n tid FromBuffer all) = EndsIn all r.content.len buffer r.target
LiesAt r buffer (NotTaken x) = Unit

-- What is decided, and then copied, is Receive.
abbrev pub Decides : Receiver → TradeDate → List ℕ → List ℕ → Decision → Type 0
Decides e floor p buffer r =
    (wrote r.end r.answer (copied_to r.target (span_of p r.content) buffer) ≡ receive_from floor e p buffer)
    × (r.series ≡ series_in (dated_of p).packet)
    × (r.content.start + r.content.len ≤ length p)
    × LiesAt r buffer r.answer

-- The chain of a series is dropped; a series that is not open has none.
unfoldable pub dropped_of : Receiver → ℕ → Receiver
dropped_of e s = dropped e s when is_open e s else e
