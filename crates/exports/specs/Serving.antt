-- The serving end as the numbers that C and Rust get and give (include/ftd.h): its state, and what each call
-- answers.
use Rattle.std.specs.Prelude.{ℕ, map, not, eqb}
use Rattle.ftd.specs.Refusal.{number_of}
use Rattle.flow.specs.declared.sender.DaySeries.{DaySeries}
use Rattle.flow.specs.declared.sender.Place.{Place}
use Rattle.flow.specs.declared.sender.Sender.{Sender}
use Rattle.flow.specs.Types.{Opened}
use Rattle.flow.specs.Types.{Published}
use Rattle.flow.specs.Types.{LoggedIn}
use Rattle.flow.specs.Ends.{Left, Wrote, sender}
use Rattle.exports.specs.Numbers.{refusal_of, flag, dated_flag, date_of, date_for, paired}
use Rattle.exports.specs.declared.serving.FtdServed.{FtdServed}
use Rattle.exports.specs.declared.serving.FtdSender.{FtdSender}
use Rattle.exports.specs.declared.serving.FtdSenderOpened.{FtdSenderOpened}
use Rattle.exports.specs.declared.serving.FtdPublished.{FtdPublished}
use Rattle.exports.specs.declared.serving.FtdLoggedIn.{FtdLoggedIn}
use Rattle.exports.specs.declared.serving.FtdSent.{FtdSent}
use Rattle.exports.specs.declared.serving.FtdSentPacket.{FtdSentPacket}
use Rattle.std.specs.Prelude.{Some, None, Ok, Err}
use Rattle.flow.specs.Types.{SendAnswer, PacketSent}

-- ─── The end that numbers say: any number but 0 is true, and a trade date unless dated is 0 ───

abbrev pub day_series_for : FtdServed → DaySeries
day_series_for x =
    record { series = x.series; published = x.published; reserve = x.reserve; used = x.used }

abbrev pub place_for : FtdServed → Place
place_for x = record { login = not (eqb x.login 0); next = x.next; piece = x.piece }

unfoldable pub sender_for : FtdSender → Sender
sender_for s =
    sender (date_for s.dated s.date) s.count (map day_series_for s.series) s.used (map place_for s.series)

-- ─── The numbers of an end ───

abbrev pub served_numbers : DaySeries → Place → FtdServed
served_numbers d p =
    record {
      next = p.next;
      piece = p.piece;
      reserve = d.reserve;
      used = d.used;
      published = d.published;
      series = d.series;
      login = flag p.login;
    }

unfoldable pub sender_numbers : Sender → FtdSender
sender_numbers e =
    record {
      used = e.day.used;
      series = paired served_numbers e.day.series e.seat.places;
      count = e.day.count;
      date = date_of e.day.date;
      dated = dated_flag e.day.date;
    }

-- ─── An answer beside the end: 0 or the number of the refusal; what an answer does not have is 0 ───

-- An opening of either end.
abbrev pub opened_number : Opened → ℕ
opened_number x = refusal_of x

-- The message's number.
abbrev pub published_with : FtdSender → Published → FtdPublished
published_with e (Ok k) = record { end = e; number = k; refusal = 0 }
published_with e (Err r) = record { end = e; number = 0; refusal = number_of r }

-- How many bytes were written.
abbrev pub logged_in_with : FtdSender → LoggedIn → FtdLoggedIn
logged_in_with e (Ok n) = record { end = e; bytes = n; refusal = 0 }
logged_in_with e (Err r) = record { end = e; bytes = 0; refusal = number_of r }

-- 0 none left, 1 a message's number and bytes, 2 refused.
abbrev pub sent_with : FtdSender → SendAnswer → FtdSent
sent_with e (Ok None) = record { end = e; bytes = 0; number = 0; answer = 0; refusal = 0 }
sent_with e (Ok (Some found)) = record { end = e; bytes = found.len; number = found.number; answer = 1; refusal = 0 }
sent_with e (Err r) = record { end = e; bytes = 0; number = 0; answer = 2; refusal = number_of r }

-- The same, and 1 where it is the message's last packet.
abbrev pub sent_packet_with : FtdSender → PacketSent → FtdSentPacket
sent_packet_with e (Ok None) = record { end = e; bytes = 0; number = 0; answer = 0; refusal = 0; last = 0 }
sent_packet_with e (Ok (Some found)) =
    record { end = e; bytes = found.len; number = found.number; answer = 1; refusal = 0; last = flag found.last }
sent_packet_with e (Err r) =
    record { end = e; bytes = 0; number = 0; answer = 2; refusal = number_of r; last = 0 }

-- ─── What each call leaves ───

abbrev pub day_opened_numbers : Left Sender Opened → FtdSenderOpened
day_opened_numbers x = record { end = sender_numbers x.end; refusal = opened_number x.answer }

abbrev pub published_numbers : Wrote Sender Published → FtdPublished
published_numbers x = published_with (sender_numbers x.end) x.answer

abbrev pub logged_in_numbers : Wrote Sender LoggedIn → FtdLoggedIn
logged_in_numbers x = logged_in_with (sender_numbers x.end) x.answer

abbrev pub sent_numbers : Wrote Sender SendAnswer → FtdSent
sent_numbers x = sent_with (sender_numbers x.end) x.answer

abbrev pub sent_packet_numbers : Wrote Sender PacketSent → FtdSentPacket
sent_packet_numbers x = sent_packet_with (sender_numbers x.end) x.answer
