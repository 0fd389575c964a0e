-- What rows 28 and 29 ask of the fields (02, No. 12), by the pairs of tag and text: which texts are numbers (002, Table
-- 39), the range of a resend request, and which tags stand exactly once (Table 1, Appendix E, column 必需).
use Rattle.std.specs.Prelude.{ℕ, ◌≤◌, ◌≡◌, ◌⊎◌, List, [], ◌∷◌, true, length, take}
use Rattle.std.proofs.Math.Option.{some}
use Rattle.ftd.specs.declared.packet.Span.{Span}
use Rattle.ftd.specs.declared.refusal.Refusal.TheVariants.{NotOneFrame, RequiredTag}
use Rattle.fix.specs.declared.kinds.Kind.{Kind}
use Rattle.fix.specs.declared.kinds.Kind.TheVariants.{Heartbeat, TestRequest, ResendRequest, SequenceReset}
use Rattle.fix.specs.declared.kinds.Kind.TheVariants.{Logout, Logon, Other}
use Rattle.fix.specs.declared.read.Message.{Message}
use Rattle.fix.specs.declared.read.Judged.TheVariants.{Refused}
use Rattle.fix.specs.Kinds.{kind_of}
use Rattle.fix.specs.Frame.{frame_of, frame_bytes, is_framed}
use Rattle.fix.specs.Read.{message_in, read_of}
use Rattle.fix.specs.Write.{write_answer, write_output}
use Rattle.fix.specs.RoundTrips.{text_at}
use Rattle.fix.specs.Pairs.{Pair, pair, pairs_of, bytes_of, IsNumber, CanWrite, no_pair}
use Rattle.fix.specs.Values.{In, Without, Only}
use Rattle.std.specs.Prelude.{None, Ok}
use Rattle.fix.specs.Types.{some_frame}

abbrev pub Among : ℕ → List ℕ → Type 0
Among tag [] = ⊥
Among tag (t ∷ ts) = (t ≡ tag) ⊎ Among tag ts

-- ─── 28: numbers ───

-- MsgSeqNum, SecureDataLen, SignatureLength, LastMsgSeqNumProcessed; BeginSeqNo, EndSeqNo; NewSeqNo; EncodedTextLen;
-- EncryptMethod, HeartBtInt, RawDataLength, MaxMessageSize, NoMsgTypes.
abbrev pub number_tags : Kind → List ℕ
number_tags Heartbeat = 34 ∷ 90 ∷ 93 ∷ 369 ∷ []
number_tags TestRequest = 34 ∷ 90 ∷ 93 ∷ 369 ∷ []
number_tags ResendRequest = 34 ∷ 90 ∷ 93 ∷ 369 ∷ 7 ∷ 16 ∷ []
number_tags SequenceReset = 34 ∷ 90 ∷ 93 ∷ 369 ∷ 36 ∷ []
number_tags Logout = 34 ∷ 90 ∷ 93 ∷ 369 ∷ 354 ∷ []
number_tags Logon = 34 ∷ 90 ∷ 93 ∷ 369 ∷ 98 ∷ 108 ∷ 95 ∷ 383 ∷ 384 ∷ []
number_tags Other = 34 ∷ []

pub record NumbersRight (kind : Kind) (ps : List Pair) : Type 0 where
  pub numbers : (p : Pair) → In p ps → Among p.tag (number_tags kind) → (n : ℕ) × IsNumber p.text n
  -- A lost run is asked for by its first number and a last not below it, or 0 for all that follow.
  pub range : kind ≡ ResendRequest → (first last : ℕ) (s t : List ℕ) → In (pair 7 s) ps → IsNumber s first
      → In (pair 16 t) ps → IsNumber t last → (last ≡ 0) ⊎ (first ≤ last)

-- ─── 29: required tags, and the flag ───

-- SenderCompID, TargetCompID, MsgSeqNum, SendingTime, and the type's own.
abbrev pub once_tags : Kind → List ℕ
once_tags Heartbeat = 49 ∷ 56 ∷ 34 ∷ 52 ∷ []
once_tags TestRequest = 49 ∷ 56 ∷ 34 ∷ 52 ∷ 112 ∷ []
once_tags ResendRequest = 49 ∷ 56 ∷ 34 ∷ 52 ∷ 7 ∷ 16 ∷ []
once_tags SequenceReset = 49 ∷ 56 ∷ 34 ∷ 52 ∷ 36 ∷ []
once_tags Logout = 49 ∷ 56 ∷ 34 ∷ 52 ∷ []
once_tags Logon = 49 ∷ 56 ∷ 34 ∷ 52 ∷ 98 ∷ 108 ∷ []
once_tags Other = 34 ∷ []

pub record TagsRight (kind : Kind) (ps : List Pair) : Type 0 where
  pub once : (tag : ℕ) → Among tag (once_tags kind) → (text : List ℕ) × Only tag text ps
  -- BeginString, BodyLength, MsgType, CheckSum: the frame has them.
  pub frame : (tag : ℕ) → Among tag (8 ∷ 9 ∷ 35 ∷ 10 ∷ []) → Without tag ps
  -- PossDupFlag: at most once.
  pub flag : Without 43 ps ⊎ ((text : List ℕ) × Only 43 text ps)

-- ─── The rows ───

-- A frame, by the places of its type and its fields.
pub record Framing (b : List ℕ) : Type 0 where
  pub name : Span
  pub fields : Span
  pub framed : frame_of b ≡ some_frame name fields

abbrev pub kind_in : (b : List ℕ) → Framing b → Kind
kind_in b f = kind_of (text_at b f.name)

abbrev pub pairs_at : (b : List ℕ) → Framing b → List Pair
pairs_at b f = pairs_of (text_at b f.fields)

pub record Rows : Type 0 where
  -- A frame whose numbers and tags are right bears a message, and no other bytes do.
  pub taken : (b : List ℕ) (f : Framing b) → NumbersRight (kind_in b f) (pairs_at b f) → TagsRight (kind_in b f) (pairs_at b f)
      → (m : Message) × (message_in (read_of b 0).answer ≡ some m)
  pub right : (b : List ℕ) (expected : ℕ) (m : Message) → message_in (read_of b expected).answer ≡ some m
      → (f : Framing b) × NumbersRight (kind_in b f) (pairs_at b f) × TagsRight (kind_in b f) (pairs_at b f)
  -- 28: no frame, or a number is wrong; 29: a frame whose numbers are right and whose tags are not.
  pub row28 : (b : List ℕ) (expected : ℕ) → (read_of b expected).answer ≡ Refused NotOneFrame
      → (frame_of b ≡ None) ⊎ ((f : Framing b) × (NumbersRight (kind_in b f) (pairs_at b f) → ⊥))
  pub row29 : (b : List ℕ) (expected : ℕ) → (read_of b expected).answer ≡ Refused RequiredTag
      → (f : Framing b) × NumbersRight (kind_in b f) (pairs_at b f) × (TagsRight (kind_in b f) (pairs_at b f) → ⊥)
  -- In writing too: with room, exactly such type and fields are written.
  pub written : (name run : List ℕ) (room n : ℕ) → write_answer name run room ≡ Ok n
      → NumbersRight (kind_of name) (pairs_of run) × TagsRight (kind_of name) (pairs_of run)
  pub writes : (name run : List ℕ) (room : ℕ) → is_framed name run ≡ true → NumbersRight (kind_of name) (pairs_of run)
      → TagsRight (kind_of name) (pairs_of run) → length (frame_bytes name run) ≤ room
      → write_answer name run room ≡ Ok (length (frame_bytes name run))
  -- What is written of pairs is read as a message of this type with these pairs; with other numbers expected too
  -- (Judgement, any).
  pub back : (name out : List ℕ) (ps : List Pair) (n : ℕ) → CanWrite no_pair ps
      → write_answer name (bytes_of ps) (length out) ≡ Ok n
      → let b = take n (write_output name (bytes_of ps) out) in
      (m : Message) × (message_in (read_of b 0).answer ≡ some m) × (text_at b m.name ≡ name)
      × (pairs_of (text_at b m.fields) ≡ ps)
