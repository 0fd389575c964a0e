-- A bufferful (02, No. 8): many packets in one call of the receiving end, many records in one call of the serving end.
-- Both are one walk: the bytes are cut into inputs, and the single call is called for one after the other until it
-- gives an answer to stop at. No row is added to the refusal table.
use Rattle.std.specs.Prelude.{ℕ, ◌+◌, ◌-◌, List, [], ◌∷◌, cond, length, drop, ltb, eqb}
use Rattle.std.proofs.Math.Option.{Option, none, some}
use Rattle.ftd.specs.Bytes.{be16_of, be32_of}
use Rattle.ftd.specs.Runs.{Form, Run, run_of}
use Rattle.ftd.specs.Packet.{span, missing_of}
use Rattle.ftd.specs.Chain.Laws.{packet_form}
use Rattle.ftd.specs.Refusal.{number_of}
use Rattle.ftd.specs.declared.packet.Span.{Span}
use Rattle.flow.specs.declared.sender.Sender.{Sender}
use Rattle.flow.specs.Types.{Published}
use Rattle.flow.specs.declared.receiver.Receiver.{Receiver}
use Rattle.flow.specs.declared.receiver.Origin.{Origin}
use Rattle.flow.specs.declared.receiver.Origin.TheVariants.{Packet, Buffer}
use Rattle.flow.specs.declared.receiver.Received.{Received}
use Rattle.flow.specs.declared.receiver.Received.TheVariants.{Idle, Duplicate, Partial, Complete}
use Rattle.flow.specs.declared.receiver.Received.TheVariants.{Refused as NotTaken}
use Rattle.flow.specs.declared.several.ReceivedSeveral.{ReceivedSeveral}
use Rattle.flow.specs.declared.several.ReceivedSeveral.TheVariants.{End, Short}
use Rattle.flow.specs.declared.several.ReceivedSeveral.TheVariants.{Complete as StopComplete}
use Rattle.flow.specs.declared.several.ReceivedSeveral.TheVariants.{Refused as StopRefused}
use Rattle.flow.specs.declared.several.PublishedSeveral.{PublishedSeveral}
use Rattle.flow.specs.declared.several.PublishedSeveral.TheVariants.{End as PublishedEnd}
use Rattle.flow.specs.declared.several.PublishedSeveral.TheVariants.{Short as PublishedShort}
use Rattle.flow.specs.declared.several.PublishedSeveral.TheVariants.{Refused as PublishedRefused}
use Rattle.flow.specs.Ends.{Wrote}
use Rattle.flow.specs.Answers.{Said, refused, handed_on, content_in, received_said, published_said}
use Rattle.flow.specs.Serving.{publish_of}
use Rattle.flow.specs.Receiving.{receive_of}
use Rattle.std.specs.Prelude.{Ok, Err}

-- ─── The paper's words for the answers: end, short with its number, or what the single call said where it stopped ───

pub data Told : Type 0 where
  end : Told
  short : ℕ → Told
  stopped : Said → Told

abbrev pub received_told : List ℕ → List ℕ → ReceivedSeveral → Told
received_told bytes buffer End = end
received_told bytes buffer (Short n) = short n
received_told bytes buffer (StopComplete n tid origin at) =
    stopped (handed_on n (record { tid = tid; content = content_in bytes buffer origin at }))
received_told bytes buffer (StopRefused r) = stopped (refused (number_of r))

abbrev pub published_told : List ℕ → List ℕ → PublishedSeveral → Told
published_told bytes log PublishedEnd = end
published_told bytes log (PublishedShort n) = short n
published_told bytes log (PublishedRefused r) = stopped (refused (number_of r))

-- ─── The walk, of any single call ───

-- How a single call is called again and again: the form of an input (a head that says how many bytes follow); the call,
-- of an end, an input and the lent bytes; which answer to an input at a place it stops at, and with what (none: it goes
-- on); how many bytes are missing of an input; the answers end and short; and the paper's words of both answers.
pub record Repeated (End Answer All : Type 0) : Type 0 where
  pub form : Form
  pub call : End → List ℕ → List ℕ → Wrote End Answer
  pub stops : ℕ → Answer → Option All
  pub missing : List ℕ → ℕ
  pub ended : All
  pub cut : ℕ → All
  pub said : List ℕ → List ℕ → Answer → Said
  pub told : List ℕ → List ℕ → All → Told

-- What the call for several leaves: the end, its answer, every byte lent, and how many bytes it took.
pub record Took (End All : Type 0) : Type 0 where
  pub end : End
  pub answer : All
  pub bytes : List ℕ
  pub taken : ℕ

abbrev pub took : {E B : Type 0} → E → B → List ℕ → ℕ → Took E B
took e answer l taken = record { end = e; answer = answer; bytes = l; taken = taken }

-- It stops with an answer, or goes on.
abbrev pub stop_or : {B C : Type 0} → Option B → (B → C) → C → C
stop_or none f more = more
stop_or (some b) f more = f b

-- No input stands whole at the front of what is left: end where nothing is left, else short. (02: also where 1 or 3
-- would come; with missing bytes no input is looked at.)
abbrev pub rest_of : {E A B : Type 0} → Repeated E A B → List ℕ → B
rest_of R rest = cond (eqb (length rest) 0) R.ended (R.cut (R.missing rest))

-- From a place on, input after input; an input that it stops at counts as taken, what is left behind all does not.
abbrev pub walk_from : {E A B : Type 0} → Repeated E A B → E → List ℕ → ℕ → List ℕ → List (List ℕ) → Took E B
walk_from R e l at rest [] = took e (rest_of R rest) l at
walk_from R e l at rest (x ∷ xs) =
    let r = R.call e x l in
    stop_or (R.stops at r.answer) (λ b. took r.end b r.bytes (at + length x))
    (walk_from R r.end r.bytes (at + length x) rest xs)

abbrev pub walk_over : {E A B : Type 0} → Repeated E A B → E → List ℕ → ℕ → Run → Took E B
walk_over R e l at run = walk_from R e l at run.rest run.entries

unfoldable pub several_of : {E A B : Type 0} → Repeated E A B → E → List ℕ → List ℕ → Took E B
several_of R e bytes l = walk_over R e l 0 (run_of R.form bytes)

-- ─── Receive for several packets: cut by their first four bytes; the reassembly buffer is written ───

-- The content of a message that lies in its packet, as a place in the bytes of this call.
abbrev pub placed_from : ℕ → Origin → Span → Span
placed_from at Packet c = span (at + c.start) c.len
placed_from at Buffer c = c

-- It stops at a message handed on and at a refusal; idle, again and held pass.
abbrev pub received_stops : ℕ → Received → Option ReceivedSeveral
received_stops at Idle = none
received_stops at (Duplicate n) = none
received_stops at (Partial n) = none
received_stops at (Complete n tid origin c) = some (StopComplete n tid origin (placed_from at origin c))
received_stops at (NotTaken r) = some (StopRefused r)

abbrev pub receiving : Repeated Receiver Received ReceivedSeveral
receiving =
    record {
      form = packet_form;
      call = receive_of;
      stops = received_stops;
      missing = missing_of;
      ended = End;
      cut = Short;
      said = received_said;
      told = received_told;
    }

abbrev pub receive_several_of : Receiver → List ℕ → List ℕ → Took Receiver ReceivedSeveral
receive_several_of e bytes buffer = several_of receiving e bytes buffer

-- ─── Publish for several records: series 2 bytes, TID 4, content length 4, then the content; the log is written ───

unfoldable pub record_form : Form
record_form = record { head = 10; follow = λ l. be32_of l 6 }

-- Ten bytes for the four.
unfoldable pub record_missing : List ℕ → ℕ
record_missing x = cond (ltb (length x) 10) (10 - length x) (10 + be32_of x 6 - length x)

unfoldable pub publish_record : Sender → List ℕ → List ℕ → Wrote Sender Published
publish_record e x log = publish_of e (be16_of x 0) (be32_of x 2) (drop 10 x) log

-- It stops at a refusal alone.
abbrev pub published_stops : ℕ → Published → Option PublishedSeveral
published_stops at (Ok k) = none
published_stops at (Err r) = some (PublishedRefused r)

abbrev pub publishing : Repeated Sender Published PublishedSeveral
publishing =
    record {
      form = record_form;
      call = publish_record;
      stops = published_stops;
      missing = record_missing;
      ended = PublishedEnd;
      cut = PublishedShort;
      said = λ x log answer. published_said answer;
      told = published_told;
    }

abbrev pub publish_several_of : Sender → List ℕ → List ℕ → Took Sender PublishedSeveral
publish_several_of e bytes log = several_of publishing e bytes log
