-- The six types of messages that are looked into (002, Appendix E), which tags they must have, and which of their texts
-- are numbers.
use Rattle.std.specs.Prelude.{ℕ, List, [], ◌∷◌, ◌++◌, Bool, true, false, cond, ◌||◌, length, get_or, eqb}
use Rattle.fix.specs.declared.kinds.Kind.{Kind}
use Rattle.fix.specs.declared.kinds.Kind.TheVariants.{Heartbeat, TestRequest, ResendRequest, SequenceReset}
use Rattle.fix.specs.declared.kinds.Kind.TheVariants.{Logout, Logon, Other}

-- The type is one byte of the six, or another one.
unfoldable pub kind_for : ℕ → Kind
kind_for c =
    cond (eqb c 48) Heartbeat
    (cond (eqb c 49) TestRequest
    (cond (eqb c 50) ResendRequest
    (cond (eqb c 52) SequenceReset
    (cond (eqb c 53) Logout
    (cond (eqb c 65) Logon Other)))))

unfoldable pub kind_of : List ℕ → Kind
kind_of name = cond (eqb (length name) 1) (kind_for (get_or name 0 0)) Other

-- ─── Required tags: column 必需 of Table 1 and of the type's table ───

-- BeginString, BodyLength, MsgType, SenderCompID, TargetCompID, MsgSeqNum, SendingTime, CheckSum.
abbrev pub session : List ℕ
session = 8 ∷ 9 ∷ 35 ∷ 49 ∷ 56 ∷ 34 ∷ 52 ∷ 10 ∷ []

abbrev pub required : Kind → List ℕ
required Heartbeat = session
required TestRequest = session ++ (112 ∷ [])
required ResendRequest = session ++ (7 ∷ 16 ∷ [])
required SequenceReset = session ++ (36 ∷ [])
required Logout = session
required Logon = session ++ (98 ∷ 108 ∷ [])
required Other = 8 ∷ 9 ∷ 35 ∷ 34 ∷ 10 ∷ []

-- The tags of the type's own values: TestReqID; BeginSeqNo and EndSeqNo; NewSeqNo; EncryptMethod and HeartBtInt. 0:
-- none.
abbrev pub first_tag : Kind → ℕ
first_tag Heartbeat = 0
first_tag TestRequest = 112
first_tag ResendRequest = 7
first_tag SequenceReset = 36
first_tag Logout = 0
first_tag Logon = 98
first_tag Other = 0

abbrev pub second_tag : Kind → ℕ
second_tag Heartbeat = 0
second_tag TestRequest = 0
second_tag ResendRequest = 16
second_tag SequenceReset = 0
second_tag Logout = 0
second_tag Logon = 108
second_tag Other = 0

-- A resend request; a sequence reset.
abbrev pub is_resend : Kind → Bool
is_resend Heartbeat = false
is_resend TestRequest = false
is_resend ResendRequest = true
is_resend SequenceReset = false
is_resend Logout = false
is_resend Logon = false
is_resend Other = false

abbrev pub is_reset : Kind → Bool
is_reset Heartbeat = false
is_reset TestRequest = false
is_reset ResendRequest = false
is_reset SequenceReset = true
is_reset Logout = false
is_reset Logon = false
is_reset Other = false

abbrev pub is_other : Kind → Bool
is_other Heartbeat = false
is_other TestRequest = false
is_other ResendRequest = false
is_other SequenceReset = false
is_other Logout = false
is_other Logon = false
is_other Other = true

-- ─── Tags whose text is a number (Table 39: int, Length, SeqNum, NumInGroup) ───

-- Header and trailer: MsgSeqNum, SecureDataLen, SignatureLength, LastMsgSeqNumProcessed.
unfoldable pub session_number : ℕ → Bool
session_number tag = eqb tag 34 || (eqb tag 90 || (eqb tag 93 || eqb tag 369))

-- EncryptMethod, HeartBtInt, RawDataLength, MaxMessageSize, NoMsgTypes.
unfoldable pub logon_number : ℕ → Bool
logon_number tag = eqb tag 98 || (eqb tag 108 || (eqb tag 95 || (eqb tag 383 || eqb tag 384)))

unfoldable pub resend_number : ℕ → Bool
resend_number tag = eqb tag 7 || eqb tag 16

unfoldable pub is_number_tag : Kind → ℕ → Bool
is_number_tag Heartbeat tag = session_number tag
is_number_tag TestRequest tag = session_number tag
is_number_tag ResendRequest tag = session_number tag || resend_number tag
is_number_tag SequenceReset tag = session_number tag || eqb tag 36
is_number_tag Logout tag = session_number tag || eqb tag 354
is_number_tag Logon tag = session_number tag || logon_number tag
is_number_tag Other tag = eqb tag 34
