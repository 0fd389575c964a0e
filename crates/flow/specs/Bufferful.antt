-- A bufferful is so many single calls (02, No. 8): called until it is through, each time with what was not taken, the
-- call for several gives what the single call gives for each packet, or record, that the bytes cut into.
use Rattle.std.specs.Prelude.{ℕ, zero, suc, ◌+◌, ◌-◌, ◌<◌, ◌≤◌, ◌≡◌, List, [], ◌∷◌, ◌++◌, map, Bool, true, false, cond, length, take, drop, replicate, eqb}
use Rattle.ftd.specs.Bytes.{joined}
use Rattle.ftd.specs.Runs.{run_of}
use Rattle.ftd.specs.declared.refusal.Refusal.TheVariants.{LongExtension, BodyLength}
use Rattle.flow.specs.declared.sender.Sender.{Sender}
use Rattle.flow.specs.declared.receiver.Receiver.{Receiver}
use Rattle.flow.specs.declared.several.ReceivedSeveral.TheVariants.{End, Short, Refused}
use Rattle.flow.specs.declared.several.PublishedSeveral.TheVariants.{End as AllIn, Short as Cut}
use Rattle.flow.specs.Answers.{Said, refused, opened, published, answered, sent, none, asked, confirmed, idle}
use Rattle.flow.specs.Answers.{again, held, handed_on, sent_packet, kept, returned}
use Rattle.flow.specs.World.{Dated, Event, open_sender, publish, login, send, open_receiver, connect, request_login}
use Rattle.flow.specs.World.{send_packet, confirm_login, receive, World, start, step, run}
use Rattle.flow.specs.Agreement.{of, latest, reported, since}
use Rattle.flow.specs.Several.{Told, end, short, stopped, Repeated, Took, took, several_of, receiving, publishing}
use Rattle.flow.specs.Several.{receive_several_of, publish_several_of}

-- ─── The single call for each ───

-- The end, the lent bytes, and what was said, in order.
pub record Each (End : Type 0) : Type 0 where
  pub end : End
  pub bytes : List ℕ
  pub said : List Said

abbrev pub saying : {E : Type 0} → Said → Each E → Each E
saying a r = record { end = r.end; bytes = r.bytes; said = a ∷ r.said }

abbrev pub each : {E A B : Type 0} → Repeated E A B → E → List ℕ → List (List ℕ) → Each E
each R e l [] = record { end = e; bytes = l; said = [] }
each R e l (x ∷ xs) =
    let r = R.call e x l in
    saying (R.said x r.bytes r.answer) (each R r.end r.bytes xs)

-- What a bufferful hands out: messages, with their report of last, and refusals.
abbrev pub is_handed : Said → Bool
is_handed (refused n) = true
is_handed opened = false
is_handed (published k) = false
is_handed (answered n) = false
is_handed (sent k n) = false
is_handed (sent_packet k n last) = false
is_handed none = false
is_handed (asked n) = false
is_handed (confirmed n) = false
is_handed idle = false
is_handed (again n) = false
is_handed (held n) = false
is_handed (handed_on n m) = true
is_handed kept = false
is_handed returned = false

abbrev pub handed_out : List Said → List Said
handed_out [] = []
handed_out (a ∷ l) = cond (is_handed a) (a ∷ handed_out l) (handed_out l)

-- ─── The call for several until it is through: it answers end or short ───

-- The end, the lent bytes, what was not taken, and the answer of each call, in order.
pub record Through (End : Type 0) : Type 0 where
  pub end : End
  pub bytes : List ℕ
  pub rest : List ℕ
  pub answers : List Told

abbrev pub answering : {E : Type 0} → Told → Through E → Through E
answering a r = record { end = r.end; bytes = r.bytes; rest = r.rest; answers = a ∷ r.answers }

abbrev pub leaving : {E B : Type 0} → Took E B → List ℕ → List Told → Through E
leaving r bytes answers =
    record { end = r.end; bytes = r.bytes; rest = drop r.taken bytes; answers = answers }

-- A call for some bytes, by its answer: through, or `more` goes on with what was not taken.
abbrev pub onward : {E B : Type 0} → (E → List ℕ → List ℕ → Through E) → List ℕ → Took E B → Told → Through E
onward more bytes r end = leaving r bytes (end ∷ [])
onward more bytes r (short n) = leaving r bytes (short n ∷ [])
onward more bytes r (stopped a) = answering (stopped a) (more r.end (drop r.taken bytes) r.bytes)

-- At most so many calls.
abbrev pub calls : {E A B : Type 0} → ℕ → Repeated E A B → E → List ℕ → List ℕ → Through E
calls zero R e bytes l = record { end = e; bytes = l; rest = bytes; answers = [] }
calls (suc most) R e bytes l =
    let r = several_of R e bytes l in
    onward (calls most R) bytes r (R.told bytes r.bytes r.answer)

-- ─── The statement ───

-- The last answer, by what is left: end, or short with the number of bytes that are missing.
abbrev pub last_told : {E A B : Type 0} → Repeated E A B → List ℕ → Told
last_told R rest = cond (eqb (length rest) 0) end (short (R.missing rest))

-- Where a call stopped that goes from a place on over some inputs: those before that one, none of which is handed out,
-- and the input. The call leaves what the single call for it leaves, of the end and bytes that those before it left,
-- and says what that says.
pub record StoppedAt {E A B : Type 0} (R : Repeated E A B) (e : E) (l : List ℕ) (at : ℕ) (inputs : List (List ℕ))
    (many : Took E B) (a : Said) : Type 0 where
  pub before : List (List ℕ)
  pub input : List ℕ
  pub behind : List (List ℕ)
  pub all : inputs ≡ before ++ (input ∷ behind)
  pub passed : handed_out (each R e l before).said ≡ []
  pub says :
      let b = each R e l before in
      let r = R.call b.end input b.bytes in
      (many.end ≡ r.end) × (many.bytes ≡ r.bytes) × (R.said input r.bytes r.answer ≡ a)
  pub taken : many.taken ≡ at + length (joined before) + length input

-- One reading behind another (a driver's reads): what both leave, with the answers of the first but its last, which was
-- end or short, and then those of the second.
abbrev pub all_but_last : {A : Type 0} → List A → List A
all_but_last l = take (length l - 1) l

abbrev pub read_on : {E : Type 0} → Through E → Through E → Through E
read_on first second =
    record {
      end = second.end;
      bytes = second.bytes;
      rest = second.rest;
      answers = all_but_last first.answers ++ second.answers;
    }

-- Reading after reading, each with what the one before it did not take in front.
abbrev pub in_reads : {E A B : Type 0} → ℕ → Repeated E A B → E → List ℕ → List ℕ → List (List ℕ) → Through E
in_reads most R e bytes l [] = calls most R e bytes l
in_reads most R e bytes l (b ∷ bs) =
    let first = calls most R e bytes l in
    read_on first (in_reads most R first.end (first.rest ++ b) first.bytes bs)

pub record OneByOne {E A B : Type 0} (R : Repeated E A B) : Type 0 where
  -- With as many calls as it takes: the end, every byte lent, the messages and refusals in order, and then end or short
  -- with the rest, are those of the single call for each input that the bytes cut into.
  pub same : (e : E) (bytes l : List ℕ) (most : ℕ) → length bytes < most →
      let many = calls most R e bytes l in
      let cut = run_of R.form bytes in
      let single = each R e l cut.entries in
      (many.end ≡ single.end)
      × (many.bytes ≡ single.bytes)
      × (many.rest ≡ cut.rest)
      × (many.answers ≡ map stopped (handed_out single.said) ++ (last_told R cut.rest ∷ []))
  -- There is one call more than messages and refusals together.
  pub count : (e : E) (bytes l : List ℕ) (most : ℕ) → length bytes < most
      → length (calls most R e bytes l).answers
      ≡ suc (length (handed_out (each R e l (run_of R.form bytes).entries).said))
  -- A call that is not through takes an input's head at least; none takes more than is there.
  pub takes : (e : E) (bytes l : List ℕ) (a : Said) →
      let r = several_of R e bytes l in
      R.told bytes r.bytes r.answer ≡ stopped a → R.form.head ≤ r.taken
  pub inside : (e : E) (bytes l : List ℕ) → (several_of R e bytes l).taken ≤ length bytes
  -- Read in pieces, cut anywhere: what a reading of the first bytes did not take, with the others behind it, gives what
  -- one reading of all of them gives.
  pub across : (e : E) (a b l : List ℕ) (m n k : ℕ) → length a < m →
      let first = calls m R e a l in
      length (first.rest ++ b) < n → length (a ++ b) < k
      → read_on first (calls n R first.end (first.rest ++ b) first.bytes) ≡ calls k R e (a ++ b) l
  -- So for any number of reads.
  pub reads : (e : E) (bytes l : List ℕ) (bs : List (List ℕ)) (most : ℕ) → length (bytes ++ joined bs) < most
      → in_reads most R e bytes l bs ≡ calls most R e (bytes ++ joined bs) l
  -- A call that is not through stops at the first input that is handed out.
  pub stops : (e : E) (bytes l : List ℕ) (a : Said) →
      let r = several_of R e bytes l in
      R.told bytes r.bytes r.answer ≡ stopped a → StoppedAt R e l 0 (run_of R.form bytes).entries r a

-- ─── Reports that nobody hears: those of again and held ───

-- A Receive that hands on no message.
abbrev pub unheard : World → Event → Bool
unheard w (open_sender date ss rs) = false
unheard w (publish s tid content) = false
unheard w (login s i content out) = false
unheard w (send s out) = false
unheard w (send_packet s out) = false
unheard w (open_receiver ss) = false
unheard w connect = false
unheard w (request_login s content out) = false
unheard w (confirm_login i) = false
unheard w (receive i j) = eqb (length (step w (receive i j)).receiving.handed) (length w.receiving.handed)

-- The reports along a list of events without those: of each Answer, and with each message.
abbrev pub heard : World → List Event → List (Dated ℕ)
heard w [] = []
heard w (e ∷ es) =
    cond (unheard w e) [] (since w.receiving.reports (step w e).receiving.reports) ++ heard (step w e) es

-- Packets, whose head are four bytes, and records, whose head are ten. Of a short rest: 01 80 00 00 is refused with 1
-- by the reader, 01 00 00 0F with 3; here both are short until their bytes are there, and then refused and taken.
pub record Bufferful : Type 0 where
  pub packets : OneByOne receiving
  pub records : OneByOne publishing
  pub heads : (receiving.form.head ≡ 4) × (publishing.form.head ≡ 10)
  pub long-extension : (e : Receiver) (l : List ℕ)
      → (receive_several_of e (1 ∷ 128 ∷ 0 ∷ 0 ∷ []) l ≡ took e (Short 128) l 0)
      × (receive_several_of e (1 ∷ 128 ∷ 0 ∷ 0 ∷ replicate 128 0) l ≡ took e (Refused LongExtension) l 132)
  pub wrong-body : (e : Receiver) (l : List ℕ)
      → (receive_several_of e (1 ∷ 0 ∷ 0 ∷ 15 ∷ []) l ≡ took e (Short 15) l 0)
      × (receive_several_of e (1 ∷ 0 ∷ 0 ∷ 15 ∷ replicate 15 0) l ≡ took e (Refused BodyLength) l 19)
  -- No bytes are the end, and one to three are short; with a log of any length.
  pub nothing : (e : Receiver) (l : List ℕ) → receive_several_of e [] l ≡ took e End l 0
  pub one_byte : (e : Receiver) (l : List ℕ) → receive_several_of e (1 ∷ []) l ≡ took e (Short 3) l 0
  pub no_record : (e : Sender) (l : List ℕ) → publish_several_of e [] l ≡ took e AllIn l 0
  pub nine-bytes : (e : Sender) (l : List ℕ) → publish_several_of e (replicate 9 255) l ≡ took e (Cut 1) l 0
  -- Demand 3's n, the last number reported of a series and a day, is the last one heard.
  pub same-n : (log buffer : List ℕ) (es : List Event) (s d : ℕ)
      → latest 0 (of s d (heard (start log buffer) es)) ≡ reported (run (start log buffer) es) s d
