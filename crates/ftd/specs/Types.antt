-- What functions of this crate answer that is an Option or a Result, by name: for definitions, laws and proofs.
use Rattle.std.specs.Prelude.{ℕ, ℤ, Bool, Option, Result, Some, Ok}
use Rattle.ftd.specs.declared.packet.Span.{Span}
use Rattle.ftd.specs.declared.tags.TagRun.{TagRun}
use Rattle.ftd.specs.declared.fields.FieldPlace.{FieldPlace}
use Rattle.ftd.specs.declared.places.ItemPlace.{ItemPlace}
use Rattle.ftd.specs.declared.signed.Signed.{Signed}
use Rattle.ftd.specs.declared.chain.PiecePlace.{PiecePlace}
use Rattle.ftd.specs.declared.chain.PacketWritten.{PacketWritten}
use Rattle.ftd.specs.declared.login.Ending.{Ending}
use Rattle.ftd.specs.declared.refusal.Refusal.{Refusal}
use Rattle.ftd.specs.declared.write.WriteError.{WriteError}
use Rattle.ftd.specs.declared.chain.Cut.{Cut}
use Rattle.ftd.specs.declared.chain.Size.{Size}

-- The trade date (01: mark): tag 0x05, as a number of four bytes, or none.
abbrev pub TradeDate : Type 0
TradeDate = Option ℕ

-- A packet's place in its message, from 0: tag 0x70, as a number of two bytes, or none (02, No. 10).
abbrev pub PacketPlace : Type 0
PacketPlace = Option ℕ

-- What a check of a content finds.
abbrev pub Checked : Type 0
Checked = Result Unit Refusal

-- A String's value is its first `len` bytes; or none, where the bytes are no String.
abbrev pub Text : Type 0
Text = Option ℕ

-- A value, or none where the bytes are not one.
abbrev pub Whole : Type 0
Whole = Option ℕ

-- A signed number, or none.
abbrev pub Integer : Type 0
Integer = Option ℤ

abbrev pub ChainSize : Type 0
ChainSize = Result Size Refusal

-- What a writer answers.
abbrev pub Written : Type 0
Written = Result ℕ WriteError

-- Where the data of a tag lies in the extension.
abbrev pub MaybeData : Type 0
MaybeData = Option Span

abbrev pub some_data : ℕ → ℕ → MaybeData
some_data start len = Some (record { start = start; len = len })

-- What the extension check finds: refusal 2, or the trade date and the packet's place.
abbrev pub MaybeTags : Type 0
MaybeTags = Option TagRun

abbrev pub some_tags : TradeDate → PacketPlace → MaybeTags
some_tags date place = Some (record { date = date; place = place })

-- A field of a content: its FID, and where its bytes lie, without FID and length.
abbrev pub MaybeField : Type 0
MaybeField = Option FieldPlace

abbrev pub some_field : ℕ → ℕ → ℕ → MaybeField
some_field fid start len = Some (record { fid = fid; start = start; len = len })

-- Kind (src/kinds.rt) and decimals of an item, and where it lies in its field.
abbrev pub MaybeItem : Type 0
MaybeItem = Option ItemPlace

abbrev pub some_item : ℕ → ℕ → ℕ → ℕ → MaybeItem
some_item kind scale start width = Some (record { kind = kind; scale = scale; start = start; width = width })

abbrev pub MaybeSigned : Type 0
MaybeSigned = Option Signed

abbrev pub some_signed : Bool → ℕ → MaybeSigned
some_signed negative units = Some (record { negative = negative; units = units })

-- A piece of a content by its place among the pieces: where it starts, and its cut.
abbrev pub MaybePiece : Type 0
MaybePiece = Option PiecePlace

abbrev pub some_piece : ℕ → Cut → MaybePiece
some_piece at cut = Some (record { at = at; cut = cut })

-- What is answered for one packet of a message.
abbrev pub PacketAnswer : Type 0
PacketAnswer = Result (Option PacketWritten) Refusal

abbrev pub some_packet : ℕ → Bool → PacketAnswer
some_packet len last = Ok (Some (record { len = len; last = last }))

-- What stands behind the content of a login packet that is written.
abbrev pub MaybeEnding : Type 0
MaybeEnding = Option Ending

abbrev pub some_start : ℕ → ℕ → MaybeEnding
some_start series number = Some (record { series = series; number = number })
