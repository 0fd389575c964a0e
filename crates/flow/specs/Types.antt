-- What functions of this crate answer that is an Option or a Result, by name: for definitions, laws and proofs.
use Rattle.std.specs.Prelude.{ℕ, Bool, Option, Result, Some, Ok}
use Rattle.flow.specs.declared.order.NextEntry.{NextEntry}
use Rattle.flow.specs.declared.sender.Sent.{Sent}
use Rattle.flow.specs.declared.sender.SentPacket.{SentPacket}
use Rattle.ftd.specs.declared.refusal.Refusal.{Refusal}
use Rattle.flow.specs.declared.log.EntryPlace.{EntryPlace}
use Rattle.flow.specs.declared.sender.NextMessage.{NextMessage}
use Rattle.flow.specs.declared.several.ReceivedSeveral.{ReceivedSeveral}

-- Where a series stands among the open ones.
abbrev pub SeriesPlace : Type 0
SeriesPlace = Option ℕ

-- Where the content of a packet is copied that Receive takes: nowhere, or to a place of the reassembly buffer, behind
-- the bytes that are held.
abbrev pub Target : Type 0
Target = Option ℕ

-- Where a name stands among those in use.
abbrev pub NamePlace : Type 0
NamePlace = Option ℕ

-- What an opening answers, of either end.
abbrev pub Opened : Type 0
Opened = Result Unit Refusal

-- What Publish answers: the message's number.
abbrev pub Published : Type 0
Published = Result ℕ Refusal

-- What Login answers: how many bytes were written.
abbrev pub LoggedIn : Type 0
LoggedIn = Result ℕ Refusal

-- What keeping answers.
abbrev pub Saved : Type 0
Saved = Result Unit Refusal

-- What a return answers.
abbrev pub Restored : Type 0
Restored = Result Unit Refusal

-- What Ask answers: how many bytes were written.
abbrev pub Requested : Type 0
Requested = Result ℕ Refusal

-- What Answer answers: the series' last number.
abbrev pub Confirmed : Type 0
Confirmed = Result ℕ Refusal

-- The next entry of a series: none is left, or where it lies.
abbrev pub MaybeEntry : Type 0
MaybeEntry = Option NextEntry

abbrev pub some_entry : ℕ → ℕ → MaybeEntry
some_entry start size = Some (record { start = start; size = size })

-- What Send answers: none left (01: "none"), or the message's number and how many bytes were written.
abbrev pub SendAnswer : Type 0
SendAnswer = Result (Option Sent) Refusal

abbrev pub message_sent : ℕ → ℕ → SendAnswer
message_sent number len = Ok (Some (record { number = number; len = len }))

-- What Send answers for one packet: none left, or the message's number, how many bytes were written, and whether the
-- packet was the message's last.
abbrev pub PacketSent : Type 0
PacketSent = Result (Option SentPacket) Refusal

abbrev pub packet_sent : ℕ → ℕ → Bool → PacketSent
packet_sent number len last = Ok (Some (record { number = number; len = len; last = last }))

abbrev pub ReceiveTurn : Type 0
ReceiveTurn = Option ReceivedSeveral

abbrev pub MaybePlace : Type 0
MaybePlace = Option EntryPlace

abbrev pub some_place : ℕ → ℕ → MaybePlace
some_place a b = Some (record { start = a; size = b })

abbrev pub NextFound : Type 0
NextFound = Result (Option NextMessage) Refusal

abbrev pub next_message : ℕ → ℕ → ℕ → ℕ → NextFound
next_message a b c d = Ok (Some (record { place = a; number = b; start = c; size = d }))
