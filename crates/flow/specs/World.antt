-- Both ends with a line between them (01, the paragraph "The line hands over .."; 02, No. 4 and 10): what is there
-- after a list of calls, what the line was given, and what was published, handed on, reported and delivered. Numbers
-- are not bounded here: what the parameters of the calls can hold is a part of it.
use Rattle.std.specs.Prelude.{ℕ, zero, suc, List, [], ◌∷◌, ◌++◌, map, Bool, true, false, cond, ◌&&◌, length, eqb}
use Rattle.std.proofs.Math.Option.{Option, none, some}
use Rattle.std.proofs.Math.ListN.{get_elem?}
use Rattle.ftd.specs.Runs.{run_of}
use Rattle.ftd.specs.Packet.{dated_of}
use Rattle.ftd.specs.Chain.Laws.{packet_form}
use Rattle.ftd.specs.Types.{TradeDate}
use Rattle.ftd.specs.declared.packet.Packet.{Packet}
use Rattle.ftd.specs.declared.packet.Packet.TheVariants.{Short, Link, Skipped, Refused}
use Rattle.ftd.specs.declared.packet.Packet.TheVariants.{Message as Accepted}
use Rattle.flow.specs.declared.sender.Sender.{Sender}
use Rattle.flow.specs.Types.{Opened}
use Rattle.flow.specs.Types.{Published}
use Rattle.flow.specs.Types.{LoggedIn}
use Rattle.flow.specs.declared.receiver.Receiver.{Receiver}
use Rattle.flow.specs.Types.{Requested}
use Rattle.flow.specs.Types.{Confirmed}
use Rattle.flow.specs.declared.receiver.Received.{Received}
use Rattle.flow.specs.Ends.{Left, Wrote, fresh_sender, fresh_receiver}
use Rattle.flow.specs.Answers.{Message, is_taken, written, is_finished, report_in, message_in, opened_said}
use Rattle.flow.specs.Answers.{published_said, login_said, sent_said, sent_packet_said, requested_said, confirmed_said}
use Rattle.flow.specs.Answers.{received_said}
use Rattle.flow.specs.Serving.{open_day_of, publish_of, login_of, send_of, send_packet_of}
use Rattle.flow.specs.Receiving.{open_end_of, connect_of, request_login_of, confirm_login_of, receive_of}
use Rattle.std.specs.Prelude.{Some, None}
use Rattle.flow.specs.Types.{SendAnswer, PacketSent}

-- ─── Things of a series, and of a series and a day ───

pub record InSeries (A : Type 0) : Type 0 where
  pub series : ℕ
  pub what : A

abbrev pub in_series : {A : Type 0} → ℕ → A → InSeries A
in_series s x = record { series = s; what = x }

pub record Dated (A : Type 0) : Type 0 where
  pub series : ℕ
  pub day : TradeDate
  pub what : A

abbrev pub dated : {A : Type 0} → ℕ → TradeDate → A → Dated A
dated s d x = record { series = s; day = d; what = x }

-- The last one of a series; y where there is none.
abbrev pub latest_of : {A : Type 0} → ℕ → A → List (InSeries A) → A
latest_of s y [] = y
latest_of s y (x ∷ l) = latest_of s (cond (eqb x.series s) x.what y) l

-- One thing, if something is so.
abbrev pub only : {A : Type 0} → Bool → A → List A
only true x = x ∷ []
only false x = []

-- ─── The events: one call each, its arguments free ───

-- What the line hands over is named by its place among all that the line was ever given, from 0; a place that names
-- nothing is no call.
pub data Event : Type 0 where
  open_sender : ℕ → List ℕ → List ℕ → Event  -- the serving end's Opening: trade date, series, reserves
  publish : ℕ → ℕ → List ℕ → Event  -- series, TID, content
  login : ℕ → ℕ → List ℕ → List ℕ → Event  -- series, place of the login packet, the answer's content, output
  send : ℕ → List ℕ → Event  -- series, output
  send_packet : ℕ → List ℕ → Event  -- Send of one packet: series, output
  open_receiver : List ℕ → Event  -- the receiving end's Opening: series
  connect : Event
  request_login : ℕ → List ℕ → List ℕ → Event  -- Ask: series, content, output
  confirm_login : ℕ → Event  -- Answer: place of the answer
  receive : ℕ → ℕ → Event  -- place of the transmission, and which of its packets, from 0

-- What was delivered: to Answer an answer with its series, to Receive a message whole.
pub data Delivery : Type 0 where
  answer : ℕ → List ℕ → Delivery
  message : List (List ℕ) → Delivery

-- The receiving end's calls before this one: the last one was handed packet j of the transmission at place i, and right
-- before it those from packet 0 on, one after the other; or anything else.
pub data Previous : Type 0 where
  came : ℕ → ℕ → Previous
  other : Previous

-- ─── Transmissions: what the Sends give the line (02, No. 4) ───

-- The packet form goes on with it; all packets of its message are there; or it was broken off.
pub data Standing : Type 0 where
  going : Standing
  whole : Standing
  broken : Standing

abbrev pub is_going : Standing → Bool
is_going going = true
is_going whole = false
is_going broken = false

abbrev pub is_whole : Standing → Bool
is_whole going = false
is_whole whole = true
is_whole broken = false

-- The packets of a message that were written so far, in order.
pub record Transmission : Type 0 where
  pub series : ℕ
  pub packets : List (List ℕ)
  pub stands : Standing

abbrev pub transmission : ℕ → List (List ℕ) → Standing → Transmission
transmission s ps stands = record { series = s; packets = ps; stands = stands }

-- The series' unfinished one.
abbrev pub goes_on : ℕ → Transmission → Bool
goes_on s t = eqb t.series s && is_going t.stands

-- Unfinished ones are broken off: of a series, or of all.
abbrev pub broken_off : Bool → Transmission → Transmission
broken_off this t = cond this (transmission t.series t.packets broken) t

abbrev pub ended_in : ℕ → List Transmission → List Transmission
ended_in s ts = map (λ (t : Transmission). broken_off (goes_on s t) t) ts

abbrev pub ended_all : List Transmission → List Transmission
ended_all ts = map (λ (t : Transmission). broken_off (is_going t.stands) t) ts

-- The packets of the series' unfinished one; none where nothing is unfinished.
abbrev pub so_far : ℕ → List Transmission → List (List ℕ)
so_far s [] = []
so_far s (t ∷ ts) = cond (goes_on s t) t.packets (so_far s ts)

-- Behind a packet, by whether it was its message's last.
abbrev pub standing : Bool → Standing
standing last = cond last whole going

-- One packet more: of the series' unfinished one, or the first of a new one.
abbrev pub with_packet : ℕ → Bool → List ℕ → List Transmission → List Transmission
with_packet s last p [] = transmission s (p ∷ []) (standing last) ∷ []
with_packet s last p (t ∷ ts) =
    cond (goes_on s t) (transmission s (t.packets ++ (p ∷ [])) (standing last) ∷ ts) (t ∷ with_packet s last p ts)

-- What was written, if anything was, is the next packet; or a whole message, which ends an unfinished one.
abbrev pub give_packet : ℕ → Bool → List (List ℕ) → List Transmission → List Transmission
give_packet s last [] ts = ts
give_packet s last (p ∷ ps) ts = with_packet s last p ts

abbrev pub give_whole : ℕ → List (List (List ℕ)) → List Transmission → List Transmission
give_whole s [] ts = ts
give_whole s (m ∷ ms) ts = ended_in s ts ++ (transmission s m whole ∷ [])

-- ─── The serving end's side: written by its five calls alone ───

pub record SenderSide : Type 0 where
  pub end : Sender
  pub log : List ℕ
  pub day : TradeDate  -- the trade date of its last Opening; none before
  pub openings : ℕ  -- how many Openings it took
  -- by the day of the last Opening: "from the serving end's Opening with that mark to its next one"
  pub published : List (Dated Message)
  pub answers : List (InSeries (List ℕ))  -- on the line: "answers of Login with their series"
  -- on the line: whatever a Send wrote of a message
  pub transmissions : List Transmission
  -- the messages sent whole, in the order in which they were finished
  pub messages : List (InSeries (List (List ℕ)))

-- A refused call opens, publishes, logs in and sends nothing.
abbrev pub after_open : SenderSide → ℕ → Left Sender Opened → SenderSide
after_open v date r =
    let taken = is_taken (opened_said r.answer) in
    record {
      end = r.end;
      log = v.log;
      day = cond taken (Some date) v.day;
      openings = cond taken (suc v.openings) v.openings;
      published = v.published;
      answers = v.answers;
      transmissions = cond taken (ended_all v.transmissions) v.transmissions;
      messages = v.messages;
    }

abbrev pub after_publish : SenderSide → ℕ → ℕ → List ℕ → Wrote Sender Published → SenderSide
after_publish v s tid content r =
    record {
      end = r.end;
      log = r.bytes;
      day = v.day;
      openings = v.openings;
      published =
          v.published ++ only (is_taken (published_said r.answer))
          (dated s v.day (record { tid = tid; content = content }));
      answers = v.answers;
      transmissions = v.transmissions;
      messages = v.messages;
    }

abbrev pub after_login : SenderSide → ℕ → Wrote Sender LoggedIn → SenderSide
after_login v s r =
    record {
      end = r.end;
      log = v.log;
      day = v.day;
      openings = v.openings;
      published = v.published;
      answers = v.answers ++ map (in_series s) (written r.bytes (login_said r.answer));
      transmissions =
          cond (is_taken (login_said r.answer)) (ended_in s v.transmissions) v.transmissions;
      messages = v.messages;
    }

-- A message that was written whole, as the packets that the bytes cut into by their first four.
abbrev pub packets_in : List ℕ → List (List ℕ)
packets_in bytes = (run_of packet_form bytes).entries

abbrev pub after_send : SenderSide → ℕ → Wrote Sender SendAnswer → SenderSide
after_send v s r =
    let sent = map packets_in (written r.bytes (sent_said r.answer)) in
    record {
      end = r.end;
      log = v.log;
      day = v.day;
      openings = v.openings;
      published = v.published;
      answers = v.answers;
      transmissions = give_whole s sent v.transmissions;
      messages = v.messages ++ map (in_series s) sent;
    }

-- A packet that was written, and the message that it finishes, if it does.
abbrev pub after_send_packet : SenderSide → ℕ → Wrote Sender PacketSent → SenderSide
after_send_packet v s r =
    let said = sent_packet_said r.answer in
    let packet = written r.bytes said in
    record {
      end = r.end;
      log = v.log;
      day = v.day;
      openings = v.openings;
      published = v.published;
      answers = v.answers;
      transmissions = give_packet s (is_finished said) packet v.transmissions;
      messages =
          v.messages ++ only (is_finished said) (in_series s (so_far s v.transmissions ++ packet));
    }

-- ─── The receiving end's side: written by its five calls alone ───

pub record ReceiverSide : Type 0 where
  pub end : Receiver
  pub buffer : List ℕ
  pub restarts : ℕ  -- how many Openings it took, and how many connections came
  pub requests : List (List ℕ)  -- on the line: "login packets of Ask"
  pub days : List (InSeries TradeDate)  -- of each Answer that it took, the trade date
  pub handed : List (Dated Message)  -- "of the day whose mark its packets bear"
  pub reports : List (Dated ℕ)  -- "of the day of its series' last Answer, that one included"
  pub delivered : List Delivery  -- whether the call was refused or not
  pub previous : Previous

abbrev pub after_reopen : ReceiverSide → Left Receiver Opened → ReceiverSide
after_reopen v r =
    record {
      end = r.end;
      buffer = v.buffer;
      restarts = cond (is_taken (opened_said r.answer)) (suc v.restarts) v.restarts;
      requests = v.requests;
      days = v.days;
      handed = v.handed;
      reports = v.reports;
      delivered = v.delivered;
      previous = other;
    }

abbrev pub after_connect : ReceiverSide → Receiver → ReceiverSide
after_connect v e =
    record {
      end = e;
      buffer = v.buffer;
      restarts = suc v.restarts;
      requests = v.requests;
      days = v.days;
      handed = v.handed;
      reports = v.reports;
      delivered = v.delivered;
      previous = other;
    }

abbrev pub after_request : ReceiverSide → Wrote Receiver Requested → ReceiverSide
after_request v r =
    record {
      end = r.end;
      buffer = v.buffer;
      restarts = v.restarts;
      requests = v.requests ++ written r.bytes (requested_said r.answer);
      days = v.days;
      handed = v.handed;
      reports = v.reports;
      delivered = v.delivered;
      previous = other;
    }

abbrev pub after_confirm : ReceiverSide → ℕ → List ℕ → Left Receiver Confirmed → ReceiverSide
after_confirm v s p r =
    let said = confirmed_said r.answer in
    let days = v.days ++ only (is_taken said) (in_series s (dated_of p).date) in
    record {
      end = r.end;
      buffer = v.buffer;
      restarts = v.restarts;
      requests = v.requests;
      days = days;
      handed = v.handed;
      reports = v.reports ++ map (dated s (latest_of s None days)) (report_in said);
      delivered = v.delivered ++ (answer s p ∷ []);
      previous = other;
    }

-- The series in the header of a packet.
abbrev pub series_in : Packet → ℕ
series_in (Short n) = 0
series_in (Link kind extension) = 0
series_in (Skipped kind extension body) = 0
series_in (Accepted h extension content) = h.series
series_in (Refused r) = 0

-- Without tag 0x05 the packet counts as of the kept trade date.
abbrev pub borne : TradeDate → TradeDate → TradeDate
borne None kept = kept
borne (Some d) kept = Some d

-- A packet is a transmission's first, or it comes right behind the one before it, of the same transmission, among the
-- receiving end's calls; calls of the serving end may stand between. So all before it came, in a run.
abbrev pub behind : Previous → ℕ → ℕ → Bool
behind (came a b) i j = eqb a i && eqb b j
behind other i j = false

abbrev pub continues : Previous → ℕ → ℕ → Bool
continues before i zero = true
continues before i (suc j) = behind before i j

-- Packet j, p, of the transmission t at place i; with the last packet of a run over a whole transmission a message is
-- delivered whole.
abbrev pub after_receive : ReceiverSide → Transmission → ℕ → ℕ → List ℕ → Wrote Receiver Received → ReceiverSide
after_receive v t i j p r =
    let said = received_said p r.bytes r.answer in
    let s = series_in (dated_of p).packet in
    let runs = continues v.previous i j in
    record {
      end = r.end;
      buffer = r.bytes;
      restarts = v.restarts;
      requests = v.requests;
      days = v.days;
      handed = v.handed ++ map (dated s (borne (dated_of p).date (latest_of s None v.days))) (message_in said);
      reports = v.reports ++ map (dated s (latest_of s None v.days)) (report_in said);
      delivered =
          v.delivered
          ++ only (runs && (is_whole t.stands && eqb (suc j) (length t.packets))) (message t.packets);
      previous = cond runs (came i j) other;
    }

-- ─── The world ───

pub record World : Type 0 where
  pub serving : SenderSide
  pub receiving : ReceiverSide

-- The ends start fresh; log and chain buffer have any length and content.
unfoldable pub start : List ℕ → List ℕ → World
start log buffer =
    record {
      serving =
          record {
            end = fresh_sender;
            log = log;
            day = None;
            openings = 0;
            published = [];
            answers = [];
            transmissions = [];
            messages = [];
          };
      receiving =
          record {
            end = fresh_receiver;
            buffer = buffer;
            restarts = 0;
            requests = [];
            days = [];
            handed = [];
            reports = [];
            delivered = [];
            previous = other;
          };
    }

abbrev pub serves : World → SenderSide → World
serves w v = record { serving = v; receiving = w.receiving }

abbrev pub receives : World → ReceiverSide → World
receives w v = record { serving = w.serving; receiving = v }

-- What is at a place goes on to f; where nothing is, the world stays.
abbrev pub with : {A : Type 0} → World → Option A → (A → World) → World
with w none f = w
with w (some x) f = f x

-- Each call gets the log and the buffer that the last one left.
abbrev pub step : World → Event → World
step w (open_sender date ss rs) =
    serves w (after_open w.serving date (open_day_of w.serving.end date ss rs w.serving.log))
step w (publish s tid content) =
    serves w (after_publish w.serving s tid content (publish_of w.serving.end s tid content w.serving.log))
step w (login s i content out) = with w (get_elem? w.receiving.requests i) λ p.
    serves w (after_login w.serving s (login_of w.serving.end s p content out))
step w (send s out) = serves w (after_send w.serving s (send_of w.serving.end s w.serving.log out))
step w (send_packet s out) =
    serves w (after_send_packet w.serving s (send_packet_of w.serving.end s w.serving.log out))
step w (open_receiver ss) = receives w (after_reopen w.receiving (open_end_of w.receiving.end ss))
step w connect = receives w (after_connect w.receiving (connect_of w.receiving.end))
step w (request_login s content out) =
    receives w (after_request w.receiving (request_login_of w.receiving.end s content out))
step w (confirm_login i) = with w (get_elem? w.serving.answers i) λ a.
    receives w
    (after_confirm w.receiving a.series a.what (confirm_login_of w.receiving.end a.series a.what))
step w (receive i j) = with w (get_elem? w.serving.transmissions i) λ t. with w (get_elem? t.packets j) λ p.
    receives w (after_receive w.receiving t i j p (receive_of w.receiving.end p w.receiving.buffer))

-- The world after a list of events, in calling order.
abbrev pub run : World → List Event → World
run w [] = w
run w (e ∷ es) = run (step w e) es
