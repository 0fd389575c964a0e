-- The tests of a line, over plain variables: a choice whose test is known, and what each verb makes of its arguments.
-- Assumes nothing.
use Prim.Native.Nat.{ℕ}
use mathlib.Core.Path.{◌≡◌}
use mathlib.Core.List.{List, [], ◌∷◌}
use mathlib.Core.Bool.{Bool, true, false, cond}
use lib.ListN.{take}
use Rattle.play.specs.declared.calls.Verb.{Verb}
use Rattle.play.specs.declared.calls.Verb.TheVariants.{Unknown}
use Rattle.play.specs.declared.calls.Verb.TheVariants.{Buffers as NamesBuffers, OpenDay as NamesOpenDay}
use Rattle.play.specs.declared.calls.Verb.TheVariants.{Publish as NamesPublish, Login as NamesLogin}
use Rattle.play.specs.declared.calls.Verb.TheVariants.{Send as NamesSend, OpenEnd as NamesOpenEnd}
use Rattle.play.specs.declared.calls.Verb.TheVariants.{Connect as NamesConnect, Ask as NamesAsk}
use Rattle.play.specs.declared.calls.Verb.TheVariants.{Answer as NamesAnswer, Receive as NamesReceive}
use Rattle.play.specs.declared.calls.Verb.TheVariants.{State as NamesState, Calendar as NamesCalendar}
use Rattle.play.specs.declared.calls.Verb.TheVariants.{Mark as NamesMark, Book as NamesBook, Take as NamesTake}
use Rattle.play.specs.declared.calls.Verb.TheVariants.{Level as NamesLevel, Mean as NamesMean, ReceiveAll as NamesReceiveAll}
use Rattle.play.specs.declared.calls.Verb.TheVariants.{PublishAll as NamesPublishAll, SendPacket as NamesSendPacket}
use Rattle.play.specs.declared.calls.Verb.TheVariants.{Keep as NamesKeep, Return as NamesReturn}
use Rattle.play.specs.declared.calls.Call.{Call}
use Rattle.play.specs.declared.calls.Call.TheVariants.{Bad, Connect, Receive, State, StartBook, ShowMean}
use Rattle.play.specs.declared.calls.Call.TheVariants.{ReceiveAll, PublishAll, Keep, Return}
use Rattle.play.specs.Words.{end_of, tid_in, same_word, argument, has_form, has_name}
use Rattle.play.specs.Words.{series_count, share_count, word_count}
use Rattle.play.specs.Calls.{verb_of, buffers_with, open_day_with, publish_with, login_call_with, send_with, open_end_with}
use Rattle.play.specs.Calls.{ask_with, answer_with, time_with, calendar_with, mark_with, plain_call, number_at}
use Rattle.play.specs.Calls.{take_with, level_with, named_call, call_of}

module _ {A : Type 0} (x y z : A) (b : Bool) where
  pub holds : b ≡ true → x ≡ y → x ≡ cond b y z
  holds e f = rw e f

  pub fails : b ≡ false → x ≡ z → x ≡ cond b y z
  fails e f = rw e f

  module _ (t : Bool) (q : b ≡ t) where
    pub found : b ≡ true → x ≡ y → x ≡ cond t y z
    found e f = rw (← q, e) f

    pub passed : b ≡ false → x ≡ z → x ≡ cond t y z
    passed e f = rw (← q, e) f

-- ─── Each verb's call ───

pub names-none : (line : List ℕ) (v : Verb) → v ≡ Unknown → Bad ≡ named_call line v
names-none line v e = rw e

module _ (line : List ℕ) (v : Verb) (r : Call) where
  module _ (b : Bool) (x y : ℕ) where
    pub names-buffers : r ≡ buffers_with b x y → v ≡ NamesBuffers → b ≡ has_form line 2 0 → x ≡ number_at line 0
        → y ≡ number_at line 1 → r ≡ named_call line v
    names-buffers k e h q p = rw (e, ← h, ← q, ← p) k

    pub names-login : r ≡ login_call_with b x y → v ≡ NamesLogin → b ≡ has_form line 2 2 → x ≡ number_at line 0
        → y ≡ number_at line 1 → r ≡ named_call line v
    names-login k e h q p = rw (e, ← h, ← q, ← p) k

    pub names-send : r ≡ send_with b x y false → v ≡ NamesSend → b ≡ has_form line 2 0 → x ≡ number_at line 0
        → y ≡ number_at line 1 → r ≡ named_call line v
    names-send k e h q p = rw (e, ← h, ← q, ← p) k

    pub names-packet : r ≡ send_with b x y true → v ≡ NamesSendPacket → b ≡ has_form line 2 0 → x ≡ number_at line 0
        → y ≡ number_at line 1 → r ≡ named_call line v
    names-packet k e h q p = rw (e, ← h, ← q, ← p) k

    pub names-ask : (a : Bool) (z : ℕ) (c : Call) → r ≡ time_with a z c → v ≡ NamesAsk → a ≡ has_form line 1 0
        → z ≡ number_at line 0 → c ≡ ask_with b x y → b ≡ has_form line 2 1 → x ≡ number_at line 0 → y ≡ number_at line 1
        → r ≡ named_call line v
    names-ask a z c k e g f d h q p =
        let w : c ≡ ask_with (has_form line 2 1) (number_at line 0) (number_at line 1) = rw (← h, ← q, ← p) d in
        rw (e, ← w, ← g, ← f) k

    pub names-publish : (w : List ℕ) → r ≡ publish_with b x y → v ≡ NamesPublish → b ≡ has_form line 2 1
        → x ≡ number_at line 0 → y ≡ tid_in w → w ≡ argument line 1 → r ≡ named_call line v
    names-publish w k e h q p f = let z : y ≡ tid_in (argument line 1) = rw f at p in rw (e, ← h, ← q, ← z) k

  pub names-day : (x n : ℕ) → r ≡ open_day_with x n → v ≡ NamesOpenDay → x ≡ number_at line 0 → n ≡ share_count line 1
      → r ≡ named_call line v
  names-day x n k e q p = rw (e, ← q, ← p) k

  pub names-end : (n : ℕ) → r ≡ open_end_with n → v ≡ NamesOpenEnd → n ≡ series_count line 0 → r ≡ named_call line v
  names-end n k e p = rw (e, ← p) k

  pub names-calendar : (x n : ℕ) → r ≡ calendar_with x n → v ≡ NamesCalendar → x ≡ number_at line 0
      → n ≡ word_count line 1 → r ≡ named_call line v
  names-calendar x n k e q p = rw (e, ← q, ← p) k

  module _ (b : Bool) where
    pub names-mark : (x : ℕ) → r ≡ mark_with b x → v ≡ NamesMark → b ≡ has_form line 1 0 → x ≡ number_at line 0
        → r ≡ named_call line v
    names-mark x k e h q = rw (e, ← h, ← q) k

    pub names-answer : (x : ℕ) → r ≡ answer_with b x → v ≡ NamesAnswer → b ≡ has_form line 1 1 → x ≡ number_at line 0
        → r ≡ named_call line v
    names-answer x k e h q = rw (e, ← h, ← q) k

    pub names-connect : r ≡ plain_call b Connect → v ≡ NamesConnect → b ≡ has_form line 0 0 → r ≡ named_call line v
    names-connect k e h = rw (e, ← h) k

    pub names-receive : r ≡ plain_call b Receive → v ≡ NamesReceive → b ≡ has_form line 0 1 → r ≡ named_call line v
    names-receive k e h = rw (e, ← h) k

    pub names-state : r ≡ plain_call b State → v ≡ NamesState → b ≡ has_form line 0 0 → r ≡ named_call line v
    names-state k e h = rw (e, ← h) k

    pub names-book : r ≡ plain_call b StartBook → v ≡ NamesBook → b ≡ has_form line 0 1 → r ≡ named_call line v
    names-book k e h = rw (e, ← h) k

    pub names-take : (x : ℕ) (w : List ℕ) → r ≡ take_with b x → v ≡ NamesTake → b ≡ has_form line 1 1 → x ≡ tid_in w
        → w ≡ argument line 0 → r ≡ named_call line v
    names-take x w k e h q f = let z : x ≡ tid_in (argument line 0) = rw f at q in rw (e, ← h, ← z) k

    pub names-level : (buying selling : Bool) (x : ℕ) (w u : List ℕ) → r ≡ level_with b buying selling x → v ≡ NamesLevel
        → b ≡ has_form line 2 0 → buying ≡ same_word w (98 ∷ []) → w ≡ argument line 0 → selling ≡ same_word u (115 ∷ [])
        → u ≡ argument line 0 → x ≡ number_at line 1 → r ≡ named_call line v
    names-level buying selling x w u k e h g f q d p =
        let y : buying ≡ same_word (argument line 0) (98 ∷ []) = rw f at g in
        let z : selling ≡ same_word (argument line 0) (115 ∷ []) = rw d at q in
        rw (e, ← h, ← y, ← z, ← p) k

    pub names-mean : r ≡ plain_call b ShowMean → v ≡ NamesMean → b ≡ has_form line 0 0 → r ≡ named_call line v
    names-mean k e h = rw (e, ← h) k

    pub names-receive-all : r ≡ plain_call b ReceiveAll → v ≡ NamesReceiveAll → b ≡ has_form line 0 1 → r ≡ named_call line v
    names-receive-all k e h = rw (e, ← h) k

    pub names-publish-all : r ≡ plain_call b PublishAll → v ≡ NamesPublishAll → b ≡ has_form line 0 1 → r ≡ named_call line v
    names-publish-all k e h = rw (e, ← h) k

    pub names-keep : r ≡ plain_call b Keep → v ≡ NamesKeep → b ≡ has_name line → r ≡ named_call line v
    names-keep k e h = rw (e, ← h) k

    pub names-return : r ≡ plain_call b Return → v ≡ NamesReturn → b ≡ has_name line → r ≡ named_call line v
    names-return k e h = rw (e, ← h) k

  pub line-is : (e : ℕ) → r ≡ named_call line v → v ≡ verb_of (take e line) → e ≡ end_of line 0 → r ≡ call_of line
  unfolding call_of
  line-is e k q p = rw (← p, ← q) k
