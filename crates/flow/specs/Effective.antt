-- The calls that count (02, No. 13), by the request's words: "the messages and reports up to the keeping (earlier returns
-- likewise), followed by those after the return". Read off a list of events alone, with what each came to; the
-- histories of the world (`Rewind`) are those of the events that count.
use Rattle.std.specs.Prelude.{ℕ, ◌≡◌, List, [], ◌∷◌, ◌++◌, Bool, false, cond}
use Rattle.ftd.specs.Bench.{same}
use Rattle.flow.specs.Answers.{Message, is_taken, saved_said, restored_said}
use Rattle.flow.specs.Checkpoints.{keep_of, restore_of}
use Rattle.flow.specs.World.{Dated, step}
use Rattle.flow.specs.Agreement.{since}
use Rattle.flow.specs.Rewind.{RewindEvent, call, keep, restore, RewindWorld, rewind_start, rewind_step, rewind_run}

-- ─── What an event came to ───

pub data Happened : Type 0 where
  did : List (Dated Message) → List (Dated ℕ) → Happened  -- what it handed on and reported
  kept : List ℕ → Happened  -- a keeping that was taken: its name
  back : List ℕ → Happened  -- a return that was taken: its name

abbrev pub happened : RewindWorld → RewindEvent → Happened
happened w (call e) =
    let v = step w.now e in
    did (since w.now.receiving.handed v.receiving.handed)
    (since w.now.receiving.reports v.receiving.reports)
happened w (keep name) =
    cond (is_taken (saved_said (keep_of w.checkpoints w.now.receiving.end name).answer)) (kept name) (did [] [])
happened w (restore name) =
    cond (is_taken (restored_said (restore_of w.checkpoints w.now.receiving.end name).answer)) (back name)
    (did [] [])

-- Along a list of events, behind what happened before; the latest first.
abbrev pub happenings : RewindWorld → List Happened → List RewindEvent → List Happened
happenings w l [] = l
happenings w l (e ∷ es) = happenings (rewind_step w e) (happened w e ∷ l) es

-- ─── What of it counts ───

-- Some happening is a keeping under a name.
abbrev pub keeps_as : List ℕ → Happened → Bool
keeps_as name (did handed reports) = false
keeps_as name (kept n) = same n name
keeps_as name (back n) = false

-- The part up to the last keeping under a name, this one included.
pub data UpTo (name : List ℕ) : List Happened → List Happened → Type 0 where
  here : {l : List Happened} (n : List ℕ) → n ≡ name → UpTo name (kept n ∷ l) (kept n ∷ l)
  past : {x : Happened} {l k : List Happened} → keeps_as name x ≡ false → UpTo name l k → UpTo name (x ∷ l) k

-- Of a list and one more that is no return: that of the list, and this one. Of a list and a return: that of the part up
-- to the last keeping under its name.
pub data Effective : List Happened → List Happened → Type 0 where
  nothing : Effective [] []
  with-did : {l m : List Happened} {handed : List (Dated Message)} {reports : List (Dated ℕ)} → Effective l m
      → Effective (did handed reports ∷ l) (did handed reports ∷ m)
  with-kept : {l m : List Happened} {name : List ℕ} → Effective l m → Effective (kept name ∷ l) (kept name ∷ m)
  returned : {l k m : List Happened} {name : List ℕ} → UpTo name l k → Effective k m → Effective (back name ∷ l) m

-- All that was handed on and reported, in order.
abbrev pub handed_in : List Happened → List (Dated Message)
handed_in [] = []
handed_in (did handed reports ∷ l) = handed_in l ++ handed
handed_in (kept name ∷ l) = handed_in l
handed_in (back name ∷ l) = handed_in l

abbrev pub reported_in : List Happened → List (Dated ℕ)
reported_in [] = []
reported_in (did handed reports ∷ l) = reported_in l ++ reports
reported_in (kept name ∷ l) = reported_in l
reported_in (back name ∷ l) = reported_in l

-- ─── The statement ───

-- What counts of a list of events, and that the world's histories are that.
pub record Counting (w : RewindWorld) (l : List Happened) : Type 0 where
  pub counts : List Happened
  pub effective : Effective l counts
  pub handed : w.now.receiving.handed ≡ handed_in counts
  pub reports : w.now.receiving.reports ≡ reported_in counts

pub record EffectiveHistories : Type 0 where
  pub histories : (log buffer : List ℕ) (es : List RewindEvent)
      → Counting (rewind_run (rewind_start log buffer) es) (happenings (rewind_start log buffer) [] es)
  -- There is one such list.
  pub once : (l m n : List Happened) → Effective l m → Effective l n → m ≡ n
