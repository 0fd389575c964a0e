-- What the paper says of each answer: a refusal has its number, any other answer its word and values (01, "Expected
-- forms by place").
use Rattle.std.specs.Prelude.{ℕ, List, [], ◌∷◌, map, Bool, true, false, take}
use Rattle.ftd.specs.Bytes.{part}
use Rattle.ftd.specs.Refusal.{number_of}
use Rattle.ftd.specs.declared.packet.Span.{Span}
use Rattle.flow.specs.Types.{Opened}
use Rattle.flow.specs.Types.{Published}
use Rattle.flow.specs.Types.{LoggedIn}
use Rattle.flow.specs.Types.{Requested}
use Rattle.flow.specs.Types.{Confirmed}
use Rattle.flow.specs.declared.receiver.Origin.{Origin}
use Rattle.flow.specs.declared.receiver.Origin.TheVariants.{Packet, Buffer}
use Rattle.flow.specs.declared.receiver.Received.{Received}
use Rattle.flow.specs.declared.receiver.Received.TheVariants.{Idle, Duplicate, Partial, Complete}
use Rattle.flow.specs.declared.receiver.Received.TheVariants.{Refused as NotTaken}
use Rattle.flow.specs.Types.{Saved}
use Rattle.flow.specs.Types.{Restored}
use Rattle.std.specs.Prelude.{Some, None, Ok, Err}
use Rattle.flow.specs.Types.{SendAnswer, PacketSent}

-- ─── The paper's words, with their values ───

pub record Message : Type 0 where
  pub tid : ℕ
  pub content : List ℕ

pub data Said : Type 0 where
  refused : ℕ → Said  -- the number of the refusal table
  opened : Said
  published : ℕ → Said  -- the message's number
  answered : ℕ → Said  -- Login: bytes written
  sent : ℕ → ℕ → Said  -- Send: the message's number, bytes written
  sent_packet : ℕ → ℕ → Bool → Said  -- Send of one packet: the message's number, bytes written, whether it was the last
  none : Said
  asked : ℕ → Said  -- Ask: bytes written
  confirmed : ℕ → Said  -- Answer: reports last
  idle : Said
  again : ℕ → Said  -- reports last
  held : ℕ → Said  -- reports last
  handed_on : ℕ → Message → Said  -- reports last; TID and content
  kept : Said  -- under a name (02, No. 13)
  returned : Said  -- to what was kept under a name

-- ─── Each answer's ───

abbrev pub opened_said : Opened → Said
opened_said (Ok tt) = opened
opened_said (Err r) = refused (number_of r)

abbrev pub published_said : Published → Said
published_said (Ok k) = published k
published_said (Err r) = refused (number_of r)

abbrev pub login_said : LoggedIn → Said
login_said (Ok n) = answered n
login_said (Err r) = refused (number_of r)

abbrev pub sent_said : SendAnswer → Said
sent_said (Ok None) = none
sent_said (Ok (Some found)) = sent found.number found.len
sent_said (Err r) = refused (number_of r)

abbrev pub sent_packet_said : PacketSent → Said
sent_packet_said (Ok None) = none
sent_packet_said (Ok (Some found)) = sent_packet found.number found.len found.last
sent_packet_said (Err r) = refused (number_of r)

abbrev pub requested_said : Requested → Said
requested_said (Ok n) = asked n
requested_said (Err r) = refused (number_of r)

abbrev pub confirmed_said : Confirmed → Said
confirmed_said (Ok n) = confirmed n
confirmed_said (Err r) = refused (number_of r)

-- The content lies in the packet p that was given, or in the reassembly buffer as the call left it.
abbrev pub content_in : List ℕ → List ℕ → Origin → Span → List ℕ
content_in p buffer Packet at = part p at.start at.len
content_in p buffer Buffer at = part buffer at.start at.len

abbrev pub received_said : List ℕ → List ℕ → Received → Said
received_said p buffer Idle = idle
received_said p buffer (Duplicate n) = again n
received_said p buffer (Partial n) = held n
received_said p buffer (Complete n tid origin at) =
    handed_on n (record { tid = tid; content = content_in p buffer origin at })
received_said p buffer (NotTaken r) = refused (number_of r)

abbrev pub saved_said : Saved → Said
saved_said (Ok tt) = kept
saved_said (Err r) = refused (number_of r)

abbrev pub restored_said : Restored → Said
restored_said (Ok tt) = returned
restored_said (Err r) = refused (number_of r)

-- ─── What is read off them ───

-- Whether the call was taken (not refused); how many bytes it wrote to an output's start; whether it wrote a message's
-- last packet; the last number that it reports; the message that it hands on. A list has the one there is, or nothing.
pub record ReadOff : Type 0 where
  pub taken : Bool
  pub wrote : List ℕ
  pub finishes : Bool
  pub reports : List ℕ
  pub hands : List Message

abbrev pub read_off : Bool → List ℕ → Bool → List ℕ → List Message → ReadOff
read_off taken wrote finishes reports hands =
    record { taken = taken; wrote = wrote; finishes = finishes; reports = reports; hands = hands }

abbrev pub off : Said → ReadOff
off (refused n) = read_off false [] false [] []
off opened = read_off true [] false [] []
off (published k) = read_off true [] false [] []
off (answered n) = read_off true (n ∷ []) false [] []
off (sent k n) = read_off true (n ∷ []) true [] []
off (sent_packet k n last) = read_off true (n ∷ []) last [] []
off none = read_off true [] false [] []
off (asked n) = read_off true (n ∷ []) false [] []
off (confirmed n) = read_off true [] false (n ∷ []) []
off idle = read_off true [] false [] []
off (again n) = read_off true [] false (n ∷ []) []
off (held n) = read_off true [] false (n ∷ []) []
off (handed_on n m) = read_off true [] false (n ∷ []) (m ∷ [])
off kept = read_off true [] false [] []
off returned = read_off true [] false [] []

abbrev pub is_taken : Said → Bool
is_taken a = (off a).taken

-- What was written to the start of an output, if anything was.
abbrev pub written : List ℕ → Said → List (List ℕ)
written out a = map (λ (n : ℕ). take n out) (off a).wrote

-- A message's last packet was written.
abbrev pub is_finished : Said → Bool
is_finished a = (off a).finishes

abbrev pub report_in : Said → List ℕ
report_in a = (off a).reports

abbrev pub message_in : Said → List Message
message_in a = (off a).hands
