-- What each value of a message is, by the tag of its field (02, No. 12; 002, Appendix E).
use Rattle.std.specs.Prelude.{ℕ, ◌≡◌, ◌⊎◌, List, [], ◌∷◌, ◌++◌, true}
use Rattle.std.proofs.Math.Option.{some}
use Rattle.ftd.specs.Packet.{span}
use Rattle.fix.specs.declared.kinds.Kind.{Kind}
use Rattle.fix.specs.declared.kinds.Kind.TheVariants.{Heartbeat, TestRequest, ResendRequest, SequenceReset}
use Rattle.fix.specs.declared.kinds.Kind.TheVariants.{Logout, Logon, Other}
use Rattle.fix.specs.declared.read.Message.{Message}
use Rattle.fix.specs.Frame.{frame_bytes}
use Rattle.fix.specs.Read.{message_in, read_of}
use Rattle.fix.specs.RoundTrips.{text_at}
use Rattle.fix.specs.Pairs.{Pair, pair, pairs_of, IsNumber}

-- ─── One pair among others ───

abbrev pub In : Pair → List Pair → Type 0
In p [] = ⊥
In p (q ∷ ps) = (q ≡ p) ⊎ In p ps

abbrev pub Without : ℕ → List Pair → Type 0
Without tag [] = Unit
Without tag (p ∷ ps) = (p.tag ≡ tag → ⊥) × Without tag ps

-- Exactly one has the tag, and it has this text.
pub record Only (tag : ℕ) (text : List ℕ) (ps : List Pair) : Type 0 where
  pub before : List Pair
  pub after : List Pair
  pub there : ps ≡ before ++ (pair tag text ∷ after)
  pub none_before : Without tag before
  pub none_after : Without tag after

-- Exactly one has the tag, and its text is this number.
pub record Says (tag n : ℕ) (ps : List Pair) : Type 0 where
  pub text : List ℕ
  pub only : Only tag text ps
  pub number : IsNumber text n

-- The number that a text is, or 0 where it is none.
abbrev pub NumberOrNot : List ℕ → ℕ → Type 0
NumberOrNot text n = IsNumber text n ⊎ (((k : ℕ) → IsNumber text k → ⊥) × (n ≡ 0))

-- ─── The type by its letter ───

pub record KindIs (name : List ℕ) (kind : Kind) : Type 0 where
  pub heartbeat : name ≡ 48 ∷ [] → kind ≡ Heartbeat
  pub test_request : name ≡ 49 ∷ [] → kind ≡ TestRequest
  pub resend_request : name ≡ 50 ∷ [] → kind ≡ ResendRequest
  pub sequence_reset : name ≡ 52 ∷ [] → kind ≡ SequenceReset
  pub logout : name ≡ 53 ∷ [] → kind ≡ Logout
  pub logon : name ≡ 65 ∷ [] → kind ≡ Logon
  pub other : (name ≡ 48 ∷ [] → ⊥) → (name ≡ 49 ∷ [] → ⊥) → (name ≡ 50 ∷ [] → ⊥) → (name ≡ 52 ∷ [] → ⊥)
      → (name ≡ 53 ∷ [] → ⊥) → (name ≡ 65 ∷ [] → ⊥) → kind ≡ Other

-- ─── The type's own values, and the text of the first ───

abbrev pub Own : Kind → List ℕ → List Pair → Message → Type 0
Own Heartbeat b ps m = (m.first ≡ 0) × (m.second ≡ 0) × (m.text ≡ span 0 0)
-- TestReqID, as a text.
Own TestRequest b ps m =
    Only 112 (text_at b m.text) ps × NumberOrNot (text_at b m.text) m.first × (m.second ≡ 0)
-- BeginSeqNo and EndSeqNo.
Own ResendRequest b ps m = Says 7 m.first ps × Says 16 m.second ps × Only 7 (text_at b m.text) ps
-- NewSeqNo.
Own SequenceReset b ps m = Says 36 m.first ps × (m.second ≡ 0) × Only 36 (text_at b m.text) ps
Own Logout b ps m = (m.first ≡ 0) × (m.second ≡ 0) × (m.text ≡ span 0 0)
-- EncryptMethod and HeartBtInt.
Own Logon b ps m = Says 98 m.first ps × Says 108 m.second ps × Only 98 (text_at b m.text) ps
Own Other b ps m = (m.first ≡ 0) × (m.second ≡ 0) × (m.text ≡ span 0 0)

-- ─── The message ───

pub record Values (b : List ℕ) (ps : List Pair) (m : Message) : Type 0 where
  -- The bytes are the frame of the type and the fields at its two places.
  pub same : b ≡ frame_bytes (text_at b m.name) (text_at b m.fields)
  pub kind : KindIs (text_at b m.name) m.kind
  -- MsgSeqNum.
  pub number : Says 34 m.number ps
  pub own : Own m.kind b ps m
  -- GapFillFlag: a field 123 says Y.
  pub fills : m.fill ≡ true → In (pair 123 (89 ∷ [])) ps
  pub filled : In (pair 123 (89 ∷ [])) ps → m.fill ≡ true

-- Of every message that an answer bears: next, again, gap, reset.
pub record FrameValues : Type 0 where
  pub values : (b : List ℕ) (expected : ℕ) (m : Message) → message_in (read_of b expected).answer ≡ some m
      → Values b (pairs_of (text_at b m.fields)) m
