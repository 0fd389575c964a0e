-- Definitions of private contracts of Receive: the parts that the code has, over the one series that a packet names, by
-- what is kept of it, what it has on this connection, its place and the count of the open ones. No call's promise names
-- them.
use Rattle.std.specs.Prelude.{ℕ, ◌+◌, ◌*◌, Bool, true, false, not, ◌||◌, ltb, leb}
use Rattle.ftd.specs.Fields.{most_content}
use Rattle.ftd.specs.Packet.{span}
use Rattle.ftd.specs.declared.refusal.Refusal.TheVariants.{UnknownSeries, NotLoggedIn, OtherDay, OutOfLine}
use Rattle.ftd.specs.declared.refusal.Refusal.TheVariants.{BrokenChain, TooSmall}
use Rattle.ftd.specs.Types.{TradeDate}
use Rattle.ftd.specs.Types.{PacketPlace}
use Rattle.ftd.specs.declared.packet.Span.{Span}
use Rattle.ftd.specs.declared.packet.Chain.{Chain}
use Rattle.ftd.specs.declared.packet.Chain.TheVariants.{Single, First, Middle, Last}
use Rattle.ftd.specs.declared.packet.Header.{Header}
use Rattle.flow.specs.declared.receive.OneStep.{OneStep}
use Rattle.flow.specs.declared.receiver.KeptSeries.{KeptSeries}
use Rattle.flow.specs.declared.receiver.LiveSeries.{LiveSeries}
use Rattle.flow.specs.declared.receiver.Receiver.{Receiver}
use Rattle.flow.specs.declared.receiver.Origin.{Origin}
use Rattle.flow.specs.declared.receiver.Origin.TheVariants.{Packet as FromPacket, Buffer as FromBuffer}
use Rattle.flow.specs.declared.receiver.Received.{Received}
use Rattle.flow.specs.declared.receiver.Received.TheVariants.{Duplicate, Partial, Complete}
use Rattle.flow.specs.declared.receiver.Received.TheVariants.{Refused as NotTaken}
use Rattle.flow.specs.Types.{Target}
use Rattle.flow.specs.declared.receiver.Decision.{Decision}
use Rattle.flow.specs.Ends.{◌when◌else◌, most_series, before, differs, index_of, logged_in, holding}
use Rattle.flow.specs.Ends.{kept_series, is_open, kept_of, live_of}
use Rattle.flow.specs.Helpers.{series_at}
use Rattle.flow.specs.Receiving.{out_of_line, broken_chain, misplaced, one_more}
use Rattle.std.specs.Prelude.{Some, None}

-- ─── Tests ───

-- All parts of the buffer, by the count of the open series; a count above 8 is 8.
abbrev pub parts_of : ℕ → ℕ
parts_of count = most_content * count when ltb count most_series else most_content * most_series

-- 18, by the buffer's length and the piece's: shorter than all parts, or the chain passes 32,768.
abbrev pub no_room : ℕ → ℕ → ℕ → ℕ → Bool
no_room count size held more = ltb size (parts_of count) || ltb most_content (held + more)

-- 17 of C and L.
abbrev pub out_of_chain : LiveSeries → Header → PacketPlace → Bool
out_of_chain live h place = broken_chain live h || misplaced place live.pieces

-- 17, by the chain letter: S and F are piece 0.
abbrev pub wrong_piece : LiveSeries → Header → PacketPlace → Chain → Bool
wrong_piece live h place Single = misplaced place 0
wrong_piece live h place First = misplaced place 0
wrong_piece live h place Middle = out_of_chain live h place
wrong_piece live h place Last = out_of_chain live h place

-- ─── What a packet leaves of its series ───

abbrev pub one_step : KeptSeries → LiveSeries → Received → Target → OneStep
one_step kept live answer target = record { kept = kept; live = live; answer = answer; target = target }

-- A way out that drops the chain.
abbrev pub one_dropping : KeptSeries → Received → OneStep
one_dropping kept answer = one_step kept logged_in answer None

-- A message is handed on: its number is the last one, and no chain is open.
abbrev pub one_completing : KeptSeries → Header → Origin → Span → Target → OneStep
one_completing kept h origin at target =
    one_step (record { series = kept.series; date = kept.date; last = h.number }) logged_in
    (Complete h.number h.tid origin at) target

-- The next piece is held: its chain is open with so many bytes, and one piece more.
abbrev pub one_keeping : KeptSeries → ℕ → ℕ → ℕ → Target → OneStep
one_keeping kept tid held pieces target =
    one_step kept (holding tid held (one_more pieces)) (Partial kept.last) target

-- A piece of so many bytes (`more`) behind `held` bytes of its chain, so many pieces, for a buffer of so many (`size`);
-- the last one makes it whole.
unfoldable pub one_holds : KeptSeries → ℕ → ℕ → Header → ℕ → ℕ → Bool → ℕ → ℕ → OneStep
one_holds kept i count h held pieces whole more size =
    one_dropping kept (NotTaken TooSmall) when no_room count size held more else
    one_completing kept h FromBuffer (span (most_content * i) (held + more)) (Some (most_content * i + held)) when whole else
    one_keeping kept h.tid (held + more) pieces (Some (most_content * i + held))

-- The next number's packet, by its chain letter.
abbrev pub one_taken : KeptSeries → LiveSeries → ℕ → ℕ → Header → Span → ℕ → Chain → OneStep
one_taken kept live i count h at size Single = one_completing kept h FromPacket at None
one_taken kept live i count h at size First = one_holds kept i count h 0 0 false at.len size
one_taken kept live i count h at size Middle =
    one_holds kept i count h live.held live.pieces false at.len size
one_taken kept live i count h at size Last =
    one_holds kept i count h live.held live.pieces true at.len size

abbrev pub one_piece : KeptSeries → LiveSeries → ℕ → ℕ → Header → PacketPlace → Span → ℕ → Chain → OneStep
one_piece kept live i count h place at size chain =
    one_dropping kept (NotTaken BrokenChain) when wrong_piece live h place chain else
    one_taken kept live i count h at size chain

-- A message packet of an open series: rows 14 to 18; 15 also of a day before some trade date.
unfoldable pub takes_one : TradeDate → KeptSeries → LiveSeries → ℕ → ℕ → Header → TradeDate → PacketPlace → Span → ℕ
    → OneStep
takes_one floor kept live i count h date place at size =
    one_step kept live (NotTaken NotLoggedIn) None when not live.login else
    one_dropping kept (NotTaken OtherDay) when differs date kept.date else
    one_dropping kept (NotTaken OtherDay) when before kept.date floor else
    one_dropping kept (NotTaken OutOfLine) when out_of_line kept.last h.number else
    one_dropping kept (Duplicate kept.last) when leb h.number kept.last else
    one_piece kept live i count h place at size h.chain

-- ─── What is decided on a packet ───

-- The end stays.
abbrev pub stayed : Receiver → Received → ℕ → Span → Decision
stayed e answer s at = record { end = e; answer = answer; series = s; content = at; target = None }

-- What is left of the series is put back at its place.
abbrev pub put_back : Receiver → ℕ → ℕ → Span → OneStep → Decision
put_back e i s at r =
    record {
      end = series_at e i r.kept r.live;
      answer = r.answer;
      series = s;
      content = at;
      target = r.target;
    }

-- A message packet: rows 13 to 18.
unfoldable pub decides_with : TradeDate → Receiver → Header → TradeDate → PacketPlace → Span → ℕ → Decision
decides_with floor e h date place at size =
    let s = h.series in
    let i = index_of s (kept_series e) in
    stayed e (NotTaken UnknownSeries) s at when not (is_open e s) else
    put_back e i s at (takes_one floor (kept_of e s) (live_of e s) i e.kept.count h date place at size)
