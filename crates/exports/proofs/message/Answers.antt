use Prim.Native.Nat.{ℕ, ◌+◌, ◌-◌}
use mathlib.Core.Path.{◌≡◌}
use mathlib.Core.List.{List}
use mathlib.Core.Bool.{true}
use lib.ListN.{get_or}
use Rattle.ftd.specs.Bytes.{be16_of, be32_of}
use Rattle.ftd.specs.Packet.{said_in, is_letter, letter_of, header_of, tid_of, series_of, message_number_of, field_count_of}
use Rattle.ftd.specs.Packet.{accepted_of}
use Rattle.ftd.specs.Packet.Helpers.{SaysLengths}
use Rattle.ftd.specs.Types.{TradeDate}
use Rattle.ftd.specs.Types.{PacketPlace}
use Rattle.ftd.proofs.write.Laws.{letter-again}
use Rattle.exports.specs.Numbers.{date_of, dated_flag, place_number, placed_flag, message_numbers, packet_numbers}
use Rattle.exports.specs.declared.FtdPacket.{FtdPacket}
use borrow.Author.Rules.{rules}
use Rattle.exports.proofs.message.Goals as goal

-- The numbers as they stand in the bytes; the chain's letter is its byte.
message-made : (p : List ℕ) (ext body : ℕ) → SaysLengths p ext body → is_letter (letter_of p) ≡ true
    → (n tid number date series fields place dated placed : ℕ) (d : TradeDate) (j : PacketPlace) → n ≡ said_in p
    → tid ≡ be32_of p (4 + ext + 1) → number ≡ be32_of p (4 + ext + 8) → date ≡ date_of d
    → series ≡ be16_of p (4 + ext + 6) → fields ≡ be16_of p (4 + ext + 12) → place ≡ place_number j
    → dated ≡ dated_flag d → placed ≡ placed_flag j
    → ◌≡◌ {A = FtdPacket}
    (record {
      size = n;
      missing = 0;
      extension = record { start = 4; len = ext };
      content = record { start = 4 + ext + 16; len = body - 16 };
      tid = tid;
      number = number;
      date = date;
      series = series;
      fields = fields;
      place = place;
      answer = 3;
      refusal = 0;
      kind = 1;
      chain = get_or p (4 + ext + 5) 0;
      dated = dated;
      placed = placed;
    })
    (packet_numbers (said_in p) (accepted_of p) d j)
unfolding accepted_of message_numbers header_of tid_of letter_of series_of message_number_of field_count_of
message-made p ext body s l n tid number date series fields place dated placed d j a b c e f g h i k =
    rw (letter-again (letter_of p) l, a, b, c, e, f, g, h, i, k, s.0, s.1)

pub returns : goal.returns
returns c = search (rules, message-made)
