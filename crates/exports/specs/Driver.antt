-- A driver of both ends in C (include/ftd.h): of a state it has the numbers that the last call left, and of each call
-- it knows what the numbers of the answer mean. What it is told along every list of calls is what `flow` says happens,
-- so demand 3 holds of what a driver published and was handed (01); and a bufferful is so many single calls (02,
-- No. 8).
use Rattle.std.specs.Prelude.{ℕ, zero, suc, ◌<◌, ◌≡◌, List, [], ◌∷◌, length}
use Rattle.std.proofs.Math.Option.{Option, none, some}
use Rattle.std.proofs.Math.ListN.{get_elem?}
use Rattle.flow.specs.declared.sender.Sender.{Sender}
use Rattle.flow.specs.declared.receiver.Receiver.{Receiver}
use Rattle.flow.specs.declared.several.ReceivedSeveral.{ReceivedSeveral}
use Rattle.flow.specs.declared.several.PublishedSeveral.{PublishedSeveral}
use Rattle.flow.specs.Ends.{left, wrote, fresh_sender, fresh_receiver}
use Rattle.flow.specs.Serving.{open_day_of, publish_of, login_of, send_of, send_packet_of}
use Rattle.flow.specs.Receiving.{open_end_of, connect_of, request_login_of, confirm_login_of, receive_of}
use Rattle.flow.specs.World.{InSeries, Event, open_sender, publish, login, send, send_packet, open_receiver, connect}
use Rattle.flow.specs.World.{request_login, confirm_login, receive, Transmission, whole, transmission, SenderSide}
use Rattle.flow.specs.World.{ReceiverSide, World}
use Rattle.flow.specs.World.{start, serves, receives, run, after_open, after_publish, after_login, after_send}
use Rattle.flow.specs.World.{after_send_packet, after_reopen, after_connect, after_request, after_confirm, after_receive}
use Rattle.flow.specs.Agreement.{Agreed, EachDated, CaughtUp, reported, published_on}
use Rattle.flow.specs.Several.{Told, Took, took, receiving, publishing, received_told, published_told}
use Rattle.flow.specs.Several.{receive_several_of, publish_several_of}
use Rattle.flow.specs.Bufferful.{Through, onward, calls}
use Rattle.exports.specs.declared.serving.FtdSender.{FtdSender}
use Rattle.exports.specs.declared.receiving.FtdReceiver.{FtdReceiver}
use Rattle.exports.specs.Serving.{sender_for, sender_numbers, day_opened_numbers, published_numbers, logged_in_numbers}
use Rattle.exports.specs.Serving.{sent_numbers, sent_packet_numbers}
use Rattle.exports.specs.Receiving.{receiver_for, receiver_numbers, end_opened_numbers, requested_numbers}
use Rattle.exports.specs.Receiving.{confirmed_numbers, received_numbers}
use Rattle.exports.specs.Several.{received_several_numbers, published_several_numbers}
use Rattle.exports.specs.Laws.{SenderIs, ReceiverIs}
use Rattle.exports.specs.Meaning.Calls.{opened_for, published_by, logged_in_by, sent_by, sent_packet_by, requested_by}
use Rattle.exports.specs.Meaning.Calls.{confirmed_by, received_by, received_several_by, published_several_by}
use Rattle.std.specs.Prelude.{None, Ok}

-- ─── The calls of an end: of its numbers and of what the driver was told on its side ───

-- What is told on a side is kept by `flow`'s own words for histories, of ends and answers that are read off numbers
-- alone. Each call is that of src, by its contract: it gets numbers, and gives numbers and the bytes that it was lent.

pub record Served : Type 0 where
  pub numbers : FtdSender
  pub side : SenderSide

abbrev pub served : FtdSender → SenderSide → Served
served n v = record { numbers = n; side = v }

abbrev pub opened_side : FtdSender → SenderSide → ℕ → List ℕ → List ℕ → Served
opened_side e v date ss rs =
    let n = day_opened_numbers (open_day_of (sender_for e) date ss rs v.log) in
    served n.end (after_open v date (left (sender_for n.end) (opened_for n.refusal)))

abbrev pub published_side : FtdSender → SenderSide → ℕ → ℕ → List ℕ → Served
published_side e v s tid content =
    let r = publish_of (sender_for e) s tid content v.log in
    let n = published_numbers r in
    served n.end (after_publish v s tid content (wrote (sender_for n.end) (published_by n) r.bytes))

abbrev pub logged_in_side : FtdSender → SenderSide → ℕ → List ℕ → List ℕ → List ℕ → Served
logged_in_side e v s p content out =
    let r = login_of (sender_for e) s p content out in
    let n = logged_in_numbers r in
    served n.end (after_login v s (wrote (sender_for n.end) (logged_in_by n) r.bytes))

abbrev pub sent_side : FtdSender → SenderSide → ℕ → List ℕ → Served
sent_side e v s out =
    let r = send_of (sender_for e) s v.log out in
    let n = sent_numbers r in
    served n.end (after_send v s (wrote (sender_for n.end) (sent_by n) r.bytes))

abbrev pub sent_packet_side : FtdSender → SenderSide → ℕ → List ℕ → Served
sent_packet_side e v s out =
    let r = send_packet_of (sender_for e) s v.log out in
    let n = sent_packet_numbers r in
    served n.end (after_send_packet v s (wrote (sender_for n.end) (sent_packet_by n) r.bytes))

pub record Taken : Type 0 where
  pub numbers : FtdReceiver
  pub side : ReceiverSide

abbrev pub taken : FtdReceiver → ReceiverSide → Taken
taken n v = record { numbers = n; side = v }

abbrev pub reopened_side : FtdReceiver → ReceiverSide → List ℕ → Taken
reopened_side e v ss =
    let n = end_opened_numbers (open_end_of (receiver_for e) ss) in
    taken n.end (after_reopen v (left (receiver_for n.end) (opened_for n.refusal)))

abbrev pub connected_side : FtdReceiver → ReceiverSide → Taken
connected_side e v =
    let n = receiver_numbers (connect_of (receiver_for e)) in taken n (after_connect v (receiver_for n))

-- Ask leaves the numbers as they are.
abbrev pub requested_side : FtdReceiver → ReceiverSide → ℕ → List ℕ → List ℕ → Taken
requested_side e v s content out =
    let r = request_login_of (receiver_for e) s content out in
    taken e (after_request v (wrote (receiver_for e) (requested_by (requested_numbers r.answer)) r.bytes))

abbrev pub confirmed_side : FtdReceiver → ReceiverSide → ℕ → List ℕ → Taken
confirmed_side e v s p =
    let n = confirmed_numbers (confirm_login_of (receiver_for e) s p) in
    taken n.end (after_confirm v s p (left (receiver_for n.end) (confirmed_by n)))

abbrev pub received_side : FtdReceiver → ReceiverSide → Transmission → ℕ → ℕ → List ℕ → Taken
received_side e v t i j p =
    let r = receive_of (receiver_for e) p v.buffer in
    let n = received_numbers r in
    taken n.end (after_receive v t i j p (wrote (receiver_for n.end) (received_by n) r.bytes))

-- ─── The driver: the numbers of both ends, and the world as it is told ───

pub record Driver : Type 0 where
  pub sender : FtdSender
  pub receiver : FtdReceiver
  pub told : World

abbrev pub driver : FtdSender → FtdReceiver → World → Driver
driver n m w = record { sender = n; receiver = m; told = w }

-- The numbers of fresh ends; log and buffer have any length and content.
unfoldable pub start_driver : List ℕ → List ℕ → Driver
start_driver log buffer = driver (sender_numbers fresh_sender) (receiver_numbers fresh_receiver) (start log buffer)

-- Behind a call of the serving end, or of the receiving end.
abbrev pub serves_with : Driver → Served → Driver
serves_with d r = driver r.numbers d.receiver (serves d.told r.side)

abbrev pub receives_with : Driver → Taken → Driver
receives_with d r = driver d.sender r.numbers (receives d.told r.side)

abbrev pub given : {A : Type 0} → Driver → Option A → (A → Driver) → Driver
given d none f = d
given d (some x) f = f x

abbrev pub driver_step : Driver → Event → Driver
driver_step d (open_sender date ss rs) = serves_with d (opened_side d.sender d.told.serving date ss rs)
driver_step d (publish s tid content) = serves_with d (published_side d.sender d.told.serving s tid content)
driver_step d (login s i content out) = given d (get_elem? d.told.receiving.requests i) λ p.
    serves_with d (logged_in_side d.sender d.told.serving s p content out)
driver_step d (send s out) = serves_with d (sent_side d.sender d.told.serving s out)
driver_step d (send_packet s out) = serves_with d (sent_packet_side d.sender d.told.serving s out)
driver_step d (open_receiver ss) = receives_with d (reopened_side d.receiver d.told.receiving ss)
driver_step d connect = receives_with d (connected_side d.receiver d.told.receiving)
driver_step d (request_login s content out) =
    receives_with d (requested_side d.receiver d.told.receiving s content out)
driver_step d (confirm_login i) = given d (get_elem? d.told.serving.answers i) λ a.
    receives_with d (confirmed_side d.receiver d.told.receiving a.series a.what)
driver_step d (receive i j) =
    given d (get_elem? d.told.serving.transmissions i) λ t. given d (get_elem? t.packets j) λ p.
    receives_with d (received_side d.receiver d.told.receiving t i j p)

abbrev pub run_driver : Driver → List Event → Driver
run_driver d [] = d
run_driver d (e ∷ es) = run_driver (driver_step d e) es

-- A driver is told a world, and has the numbers of its ends.
pub record Tells (d : Driver) (w : World) : Type 0 where
  pub world : d.told ≡ w
  pub sender : SenderIs d.sender w.serving.end
  pub receiver : ReceiverIs d.receiver w.receiving.end

-- ─── A bufferful: the call for several until it is through, the numbers handed from call to call ───

-- As `calls`, of a call for several of an end as numbers.
abbrev pub calls_by : {N B : Type 0} → (N → List ℕ → List ℕ → Took N B) → (List ℕ → List ℕ → B → Told) → ℕ → N
    → List ℕ → List ℕ → Through N
calls_by call told zero n bytes l = record { end = n; bytes = l; rest = bytes; answers = [] }
calls_by call told (suc most) n bytes l =
    let r = call n bytes l in onward (calls_by call told most) bytes r (told bytes r.bytes r.answer)

-- What the two calls for several leave, read off their numbers.
abbrev pub receive_several_with : FtdReceiver → List ℕ → List ℕ → Took FtdReceiver ReceivedSeveral
receive_several_with n bytes buffer =
    let r = receive_several_of (receiver_for n) bytes buffer in
    let m = received_several_numbers r in
    took m.end (received_several_by m) r.bytes m.taken

abbrev pub publish_several_with : FtdSender → List ℕ → List ℕ → Took FtdSender PublishedSeveral
publish_several_with n bytes log =
    let r = publish_several_of (sender_for n) bytes log in
    let m = published_several_numbers r in
    took m.end (published_several_by m) r.bytes m.taken

-- The same end, bytes, rest and answers.
pub record SameThrough {N E : Type 0} (Is : N → E → Type 0) (x : Through N) (y : Through E) : Type 0 where
  pub end : Is x.end y.end
  pub bytes : x.bytes ≡ y.bytes
  pub rest : x.rest ≡ y.rest
  pub answers : x.answers ≡ y.answers

-- ─── The statement ───

pub record DriverLaws : Type 0 where
  -- After every list of events the driver is told `flow`'s world.
  pub tells : (log buffer : List ℕ) (es : List Event)
      → Tells (run_driver (start_driver log buffer) es) (run (start log buffer) es)
  -- So demand 3 (`Agreement`) holds of what it is told.
  pub safe : (log buffer : List ℕ) (es : List Event) (s d : ℕ)
      → Agreed (run_driver (start_driver log buffer) es).told s d
  pub dated : (log buffer : List ℕ) (es : List Event) →
      let w = (run_driver (start_driver log buffer) es).told in
      EachDated w.receiving.handed × EachDated w.receiving.reports
  pub sent : (log buffer : List ℕ) (es : List Event) (i : ℕ) (m : InSeries (List (List ℕ))) →
      let v = (run_driver (start_driver log buffer) es).told.serving in
      get_elem? v.messages i ≡ some m
      → (0 < length m.what)
      × ((place : ℕ) × (get_elem? v.transmissions place ≡ some (transmission m.series m.what whole)))
  pub complete : (log buffer : List ℕ) (es fs : List Event) (e : Event) (s d : ℕ) (a out : List ℕ) →
      let u = run_driver (start_driver log buffer) es in
      let v = driver_step u e in
      let w = run_driver v fs in
      CaughtUp u.told v.told w.told s d a out
      → reported w.told s d ≡ length (published_on w.told s d)
  -- That the sender has none left, which `CaughtUp` asks for, is answer 0 of ftd_send (FTD_SEND_NONE).
  pub none_left : (log buffer : List ℕ) (es : List Event) (s : ℕ) (out : List ℕ) →
      let d = run_driver (start_driver log buffer) es in
      let v = d.told.serving in
      (sent_numbers (send_of (sender_for d.sender) s v.log out)).answer ≡ 0
      → (send_of v.end s v.log out).answer ≡ (Ok None)
  -- A bufferful: the calls for several with the numbers handed on are those of `flow`, which are so many single calls.
  pub packets : (n : FtdReceiver) (e : Receiver) → ReceiverIs n e → (most : ℕ) (bytes buffer : List ℕ)
      → SameThrough ReceiverIs (calls_by receive_several_with received_told most n bytes buffer)
      (calls most receiving e bytes buffer)
  pub records : (n : FtdSender) (e : Sender) → SenderIs n e → (most : ℕ) (bytes log : List ℕ)
      → SameThrough SenderIs (calls_by publish_several_with published_told most n bytes log)
      (calls most publishing e bytes log)
