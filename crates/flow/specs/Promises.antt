-- The form of the calls' promises (01, "Contract clauses", a and b): what each call's `ensures` says, of any end and
-- any bytes. The end afterwards, the answer, by the paper's word, number and values and as the enum, and every byte of
-- the buffer that the call may write (`after`) are those of the call's definition.
use Rattle.std.specs.Prelude.{ℕ, ◌≡◌, List}
use Rattle.flow.specs.declared.sender.Sender.{Sender}
use Rattle.flow.specs.declared.sender.OpenStep.{OpenStep as OpenDayStep}
use Rattle.flow.specs.declared.sender.PublishStep.{PublishStep}
use Rattle.flow.specs.declared.sender.LoginStep.{LoginStep}
use Rattle.flow.specs.declared.sender.SendStep.{SendStep}
use Rattle.flow.specs.declared.sender.SendPacketStep.{SendPacketStep}
use Rattle.flow.specs.declared.receiver.Receiver.{Receiver}
use Rattle.flow.specs.declared.receiver.OpenStep.{OpenStep as OpenEndStep}
use Rattle.flow.specs.Types.{Requested}
use Rattle.flow.specs.declared.receiver.ConfirmStep.{ConfirmStep}
use Rattle.flow.specs.declared.receiver.ReceiveStep.{ReceiveStep}
use Rattle.flow.specs.declared.checkpoint.Checkpoints.{Checkpoints}
use Rattle.flow.specs.declared.checkpoint.KeepStep.{KeepStep}
use Rattle.flow.specs.declared.checkpoint.RestoreStep.{RestoreStep}
use Rattle.flow.specs.declared.several.ReceiveSeveralStep.{ReceiveSeveralStep}
use Rattle.flow.specs.declared.several.PublishSeveralStep.{PublishSeveralStep}
use Rattle.flow.specs.Answers.{Said, opened_said, published_said, login_said, sent_said, requested_said, confirmed_said}
use Rattle.flow.specs.Answers.{sent_packet_said, received_said, saved_said, restored_said}
use Rattle.flow.specs.Serving.{open_day_of, publish_of, login_of, send_of, send_packet_of}
use Rattle.flow.specs.Receiving.{open_end_of, connect_of, request_login_of, confirm_login_of, receive_of}
use Rattle.flow.specs.Checkpoints.{keep_of, restore_of}
use Rattle.flow.specs.Several.{Repeated, Took, receiving, receive_several_of, publishing, publish_several_of}

-- An answer is the definition's: the paper's word of it, and the enum.
abbrev pub Answers : {A : Type 0} → (A → Said) → A → A → Type 0
Answers said given meant = (said given ≡ said meant) × (given ≡ meant)

-- ─── The serving end ───

abbrev pub OpensDay : Sender → ℕ → List ℕ → List ℕ → List ℕ → OpenDayStep → Type 0
OpensDay e date series reserves log r =
    let meant = open_day_of e date series reserves log in
    (r.end ≡ meant.end) × Answers opened_said r.answer meant.answer

abbrev pub Publishes : Sender → ℕ → ℕ → List ℕ → List ℕ → PublishStep → List ℕ → Type 0
Publishes e series tid content log r after =
    let meant = publish_of e series tid content log in
    (r.end ≡ meant.end) × Answers published_said r.answer meant.answer × (after ≡ meant.bytes)

abbrev pub LogsIn : Sender → ℕ → List ℕ → List ℕ → List ℕ → LoginStep → List ℕ → Type 0
LogsIn e series packet content out r after =
    let meant = login_of e series packet content out in
    (r.end ≡ meant.end) × Answers login_said r.answer meant.answer × (after ≡ meant.bytes)

abbrev pub Sends : Sender → ℕ → List ℕ → List ℕ → SendStep → List ℕ → Type 0
Sends e series log out r after =
    let meant = send_of e series log out in
    (r.end ≡ meant.end) × Answers sent_said r.answer meant.answer × (after ≡ meant.bytes)

abbrev pub SendsPacket : Sender → ℕ → List ℕ → List ℕ → SendPacketStep → List ℕ → Type 0
SendsPacket e series log out r after =
    let meant = send_packet_of e series log out in
    (r.end ≡ meant.end) × Answers sent_packet_said r.answer meant.answer × (after ≡ meant.bytes)

-- ─── The receiving end ───

abbrev pub OpensEnd : Receiver → List ℕ → OpenEndStep → Type 0
OpensEnd e series r =
    let meant = open_end_of e series in
    (r.end ≡ meant.end) × Answers opened_said r.answer meant.answer

abbrev pub Connects : Receiver → Receiver → Type 0
Connects e r = r ≡ connect_of e

-- The end stays: it is not returned.
abbrev pub Asks : Receiver → ℕ → List ℕ → List ℕ → Requested → List ℕ → Type 0
Asks e series content out r after =
    let meant = request_login_of e series content out in
    Answers requested_said r meant.answer × (after ≡ meant.bytes)

abbrev pub Confirms : Receiver → ℕ → List ℕ → ConfirmStep → Type 0
Confirms e series packet r =
    let meant = confirm_login_of e series packet in
    (r.end ≡ meant.end) × Answers confirmed_said r.answer meant.answer

-- What is handed on is read off the packet or off the buffer as the call left it.
abbrev pub Receives : Receiver → List ℕ → List ℕ → ReceiveStep → List ℕ → Type 0
Receives e packet buffer r after =
    let meant = receive_of e packet buffer in
    (r.end ≡ meant.end) × (received_said packet after r.answer ≡ received_said packet meant.bytes meant.answer)
    × (r.answer ≡ meant.answer)
    × (after ≡ meant.bytes)

-- ─── Named places to come back to (02, No. 13) ───

-- The receiving end stays: it is not returned.
abbrev pub Keeps : Checkpoints → Receiver → List ℕ → KeepStep → Type 0
Keeps c e name r =
    let meant = keep_of c e name in
    (r.checkpoints ≡ meant.end) × Answers saved_said r.answer meant.answer

-- The checkpoints stay: they are not returned.
abbrev pub Restores : Checkpoints → Receiver → List ℕ → RestoreStep → Type 0
Restores c e name r =
    let meant = restore_of c e name in
    (r.end ≡ meant.end) × Answers restored_said r.answer meant.answer

-- ─── A bufferful (02, No. 8) ───

-- What a call for several leaves, of the bytes given: the end, its answer, how many bytes it took, and the lent bytes.
abbrev pub LeavesSeveral : {E A B : Type 0} → Repeated E A B → Took E B → List ℕ → E → B → ℕ → List ℕ → Type 0
LeavesSeveral R meant bytes end answer taken after =
    (end ≡ meant.end)
    × (R.told bytes after answer ≡ R.told bytes meant.bytes meant.answer)
    × (answer ≡ meant.answer)
    × (taken ≡ meant.taken)
    × (after ≡ meant.bytes)

abbrev pub ReceivesSeveral : Receiver → List ℕ → List ℕ → ReceiveSeveralStep → List ℕ → Type 0
ReceivesSeveral e packets buffer r after =
    LeavesSeveral receiving (receive_several_of e packets buffer) packets r.end r.answer r.taken after

abbrev pub PublishesSeveral : Sender → List ℕ → List ℕ → PublishSeveralStep → List ℕ → Type 0
PublishesSeveral e records log r after =
    LeavesSeveral publishing (publish_several_of e records log) records r.end r.answer r.taken after
