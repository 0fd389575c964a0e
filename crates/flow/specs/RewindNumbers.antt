-- The numbers that a receiving end takes (02, No. 12) with named places to come back to (No. 13): over the calls that
-- count, those up to the keeping followed by those after the return, the numbers of a series and day are 1, 2, .., n.
-- Of an end that starts fresh, along any calls with any bytes, as in `Follows`.
use Rattle.std.specs.Prelude.{ℕ, ◌≡◌, List, [], ◌∷◌, ◌++◌, map, true, cond}
use Rattle.ftd.specs.Packet.{dated_of}
use Rattle.ftd.specs.Follow.{counting}
use Rattle.ftd.specs.Types.{TradeDate}
use Rattle.ftd.specs.declared.packet.Packet.{Packet}
use Rattle.ftd.specs.declared.packet.Packet.TheVariants.{Short, Link, Skipped, Message, Refused}
use Rattle.flow.specs.declared.receiver.Receiver.{Receiver}
use Rattle.flow.specs.declared.checkpoint.Checkpoints.{Checkpoints}
use Rattle.flow.specs.Types.{Saved}
use Rattle.flow.specs.Types.{Restored}
use Rattle.flow.specs.Ends.{Left, is_open, day_of, last_of, fresh_receiver}
use Rattle.flow.specs.Answers.{is_taken, saved_said, restored_said}
use Rattle.flow.specs.Receiving.{receive_of}
use Rattle.flow.specs.Checkpoints.{fresh_checkpoints, keep_of, restored, restore_of}
use Rattle.flow.specs.World.{Dated, dated, only, borne}
use Rattle.flow.specs.Agreement.{of}
use Rattle.flow.specs.Follows.{Lent, lent, Call, opening, connect, ask, answer, receive, lend, behind, hands_over}
use Rattle.flow.specs.Follows.{of_series, takes_on}
use Rattle.ftd.specs.Return.{Returns}
use Rattle.flow.specs.Rewind.{Memory, memory_of}
use Rattle.std.specs.Prelude.{Some}

-- ─── What a call takes, with its series and day ───

-- By the packet's own header; without a trade date it is of the kept one.
abbrev pub taken_in : Receiver → TradeDate → Packet → List (Dated ℕ)
taken_in e date (Short n) = []
taken_in e date (Link kind extension) = []
taken_in e date (Skipped kind extension body) = []
taken_in e date (Message h extension content) = dated h.series (borne date (day_of e h.series)) h.number ∷ []
taken_in e date (Refused r) = []

abbrev pub taken_by : Lent → Call → List (Dated ℕ)
taken_by v (opening ss) = []
taken_by v connect = []
taken_by v (ask t content out) = []
taken_by v (answer t p) = []
taken_by v (receive p) =
    cond (hands_over (receive_of v.end p v.buffer).answer) (taken_in v.end (dated_of p).date (dated_of p).packet) []
taken_by v (lend buffer) = []

-- ─── The end with its checkpoints ───

pub data RewindCall : Type 0 where
  call : Call → RewindCall  -- any other
  keep : List ℕ → RewindCall  -- name
  restore : List ℕ → RewindCall  -- return: name

pub record Numbering : Type 0 where
  pub now : Lent
  pub checkpoints : Checkpoints
  pub memories : List (Memory (List (Dated ℕ)))
  pub taken : List (Dated ℕ)  -- by the calls that count

abbrev pub numbering_start : List ℕ → Numbering
numbering_start buffer =
    record { now = lent fresh_receiver buffer; checkpoints = fresh_checkpoints; memories = []; taken = [] }

abbrev pub memory_now : List ℕ → Numbering → Memory (List (Dated ℕ))
memory_now name w = record { name = name; end = w.now.end; what = w.taken }

abbrev pub after_save : Numbering → List ℕ → Left Checkpoints Saved → Numbering
after_save w name r =
    record {
      now = w.now;
      checkpoints = r.end;
      memories = only (is_taken (saved_said r.answer)) (memory_now name w) ++ w.memories;
      taken = w.taken;
    }

abbrev pub after_back : Numbering → List ℕ → Left Receiver Restored → Numbering
after_back w name r =
    record {
      now = lent r.end w.now.buffer;
      checkpoints = w.checkpoints;
      memories = w.memories;
      taken = cond (is_taken (restored_said r.answer)) (memory_of name (memory_now name w) w.memories).what w.taken;
    }

abbrev pub numbering_step : Numbering → RewindCall → Numbering
numbering_step w (call c) =
    record {
      now = behind w.now c;
      checkpoints = w.checkpoints;
      memories = w.memories;
      taken = w.taken ++ taken_by w.now c;
    }
numbering_step w (keep name) = after_save w name (keep_of w.checkpoints w.now.end name)
numbering_step w (restore name) = after_back w name (restore_of w.checkpoints w.now.end name)

abbrev pub numbering_run : Numbering → List RewindCall → Numbering
numbering_run w [] = w
numbering_run w (c ∷ cs) = numbering_run (numbering_step w c) cs

-- ─── The statement ───

-- 1 to k exactly, k being last while the day is kept.
pub record CountsFromOne (s d : ℕ) (w : Numbering) : Type 0 where
  pub k : ℕ
  pub numbers : of s d w.taken ≡ counting 1 k
  pub kept : day_of w.now.end s ≡ Some d → last_of w.now.end s ≡ k

-- A return from u to what was kept at v, in any states in which no series was open at v that is not open at u.
pub record ComesBack (v u b : Lent) : Type 0 where
  pub older : (s : ℕ) → is_open v.end s ≡ true → is_open u.end s ≡ true
  pub end : b.end ≡ restored u.end v.end.kept

pub record RewindNumbers : Type 0 where
  -- Of every series, as of every numbered receiver: over the calls that count, what is taken since the numbers last
  -- started anew follows.
  pub follows : (s : ℕ) → Returns (of_series s) ComesBack
  pub counts : (s d : ℕ) (buffer : List ℕ) (cs : List RewindCall)
      → CountsFromOne s d (numbering_run (numbering_start buffer) cs)
  -- Without keeping and return they are the numbers of `Follows`.
  pub plain : (s d : ℕ) (buffer : List ℕ) (cs : List Call)
      → of s d (numbering_run (numbering_start buffer) (map call cs)).taken ≡ takes_on s d (lent fresh_receiver buffer) cs
