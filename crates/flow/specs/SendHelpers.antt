-- Definitions of private contracts of both forms of Send: the parts that the code has. No call's promise names them.
use Rattle.std.specs.Prelude.{ℕ, ◌+◌, ◌<◌, ◌≤◌, ◌≡◌, List, Bool, true, cond, length, drop}
use Rattle.std.proofs.Math.Option.{some}
use Rattle.ftd.specs.Bytes.{part}
use Rattle.ftd.specs.Fields.{shaped, most_content}
use Rattle.ftd.specs.declared.chain.Message.{Message}
use Rattle.flow.specs.declared.sender.Sender.{Sender}
use Rattle.flow.specs.Ends.{Wrote, wrote, index_of, day_series, place_of}
use Rattle.flow.specs.Log.{entry_tid}
use Rattle.flow.specs.Serving.{send_entry, send_of, send_packet_entry, send_packet_of}
use Rattle.flow.specs.Helpers.{placed_at}
use Rattle.std.specs.Prelude.{None, Ok, Err}
use Rattle.flow.specs.Types.{SendAnswer, PacketSent}
use Rattle.std.specs.Prelude.{Some}
use Rattle.flow.specs.Types.{NextFound}

-- The end, the answer and the output are those that are meant.
abbrev pub Leaves : {A : Type 0} → Wrote Sender A → Sender → A → List ℕ → Type 0
Leaves meant end answer after = (end ≡ meant.end) × (answer ≡ meant.answer) × (after ≡ meant.bytes)

-- With any output the whole form comes to the one, the form of one packet to the other.
abbrev pub BothAre : Sender → ℕ → List ℕ → (List ℕ → Wrote Sender SendAnswer) → (List ℕ → Wrote Sender PacketSent) → Type 0
BothAre e s log all one = (out : List ℕ) → (send_of e s log out ≡ all out) × (send_packet_of e s log out ≡ one out)

-- An entry of the message that is next in the series at place i: whole, with content that 7 lets pass.
abbrev pub EntryNext : Sender → ℕ → ℕ → ℕ → List ℕ → Type 0
EntryNext e s i number x =
    (i ≡ index_of s (day_series e)) × (i < 8) × (number ≡ (place_of e s).next) × (16 ≤ length x)
    × (shaped (drop 16 x) most_content ≡ true)

-- What both forms come to: none left, a refusal, or the entry of the message that is next.
abbrev pub FindsNext : Sender → ℕ → List ℕ → NextFound → Type 0
FindsNext e s log (Ok None) = BothAre e s log (wrote e (Ok None)) (wrote e (Ok None))
FindsNext e s log (Err r) = BothAre e s log (wrote e (Err r)) (wrote e (Err r))
FindsNext e s log (Ok (Some found)) =
    EntryNext e s found.place found.number (part log found.start found.size) × (found.start + found.size ≤ length log)
    × BothAre e s log (λ out. send_entry e s out (some (part log found.start found.size)))
    (λ out. send_packet_entry e s out (some (part log found.start found.size)))

-- What all packets of an entry bear.
abbrev pub headed : Sender → ℕ → ℕ → List ℕ → Message
headed e s number x =
    record { date = e.day.date; tid = entry_tid x; series = s; number = number; counted = true }

-- Behind a packet of the message that is next in the series at place i.
abbrev pub stepped_at : Sender → ℕ → ℕ → ℕ → Bool → Sender
stepped_at e i number piece last = cond last (placed_at e i (number + 1) 0) (placed_at e i number (piece + 1))
