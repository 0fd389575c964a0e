-- Both ends with a line between them, and named places of the receiving end to come back to (02, No. 13): the world of
-- `World`, with two more calls. "A user may count on demand 3 .. for the messages and reports up to the keeping (earlier
-- returns likewise), followed by those after the return": keeping remembers with the name what had been handed on and
-- reported by then, and a return that is taken brings that back with the state. So the histories of the receiving side
-- are those of the calls that count; what was published and what the line was given stays whole.
use Rattle.std.specs.Prelude.{ℕ, suc, ◌<◌, ◌≤◌, ◌≡◌, ◌⊎◌, ◌↔◌, List, [], ◌∷◌, ◌++◌, map, true, cond, length, replicate}
use Rattle.std.proofs.Math.Option.{some}
use Rattle.std.proofs.Math.ListN.{get_elem?}
use Rattle.ftd.specs.Bench.{same}
use Rattle.ftd.specs.declared.refusal.Refusal.TheVariants.{WrongName, FifthName, UnknownName}
use Rattle.ftd.specs.Types.{TradeDate}
use Rattle.flow.specs.declared.receiver.Receiver.{Receiver}
use Rattle.flow.specs.declared.checkpoint.Checkpoints.{Checkpoints}
use Rattle.flow.specs.Types.{Saved}
use Rattle.flow.specs.Types.{Restored}
use Rattle.flow.specs.Ends.{Left, most_series, no_live, kept_series, day_of, last_of}
use Rattle.flow.specs.Answers.{Message, is_taken, saved_said, restored_said}
use Rattle.flow.specs.Checkpoints.{fresh_checkpoints, keep_of, restore_of}
use Rattle.flow.specs.World.{InSeries, Dated, only, other, login, Event, whole, transmission, ReceiverSide, World}
use Rattle.flow.specs.World.{start, receives, step, run}
use Rattle.flow.specs.Agreement.{Agreed, EachDated, CaughtUp, reported, published_on}
use Rattle.flow.specs.CheckpointRows.{CheckpointRows}
use Rattle.std.specs.Prelude.{Err}

-- ─── The events: one call each ───

pub data RewindEvent : Type 0 where
  call : Event → RewindEvent  -- any other
  keep : List ℕ → RewindEvent  -- name
  restore : List ℕ → RewindEvent  -- return: name

-- ─── What is remembered ───

-- What the receiving end's calls came to: the trade dates of its Answers, what was handed on, what was reported.
pub record Histories : Type 0 where
  pub days : List (InSeries TradeDate)
  pub handed : List (Dated Message)
  pub reports : List (Dated ℕ)

-- With a name, as it was at the keeping: the receiving end, and what its calls had come to.
pub record Memory (A : Type 0) : Type 0 where
  pub name : List ℕ
  pub end : Receiver
  pub what : A

abbrev pub remember : List ℕ → ReceiverSide → Memory Histories
remember name v =
    record {
      name = name;
      end = v.end;
      what = record { days = v.days; handed = v.handed; reports = v.reports };
    }

-- The last keeping of a name; the latest is the first of the list. Where there is none: m.
abbrev pub memory_of : {A : Type 0} → List ℕ → Memory A → List (Memory A) → Memory A
memory_of name m [] = m
memory_of name m (x ∷ l) = cond (same x.name name) x (memory_of name m l)

-- ─── The world ───

pub record RewindWorld : Type 0 where
  pub now : World
  pub checkpoints : Checkpoints
  pub memories : List (Memory Histories)
  -- How many login packets of Ask there were at the last return that was taken; 0 before any.
  pub asked : ℕ

unfoldable pub rewind_start : List ℕ → List ℕ → RewindWorld
rewind_start log buffer =
    record { now = start log buffer; checkpoints = fresh_checkpoints; memories = []; asked = 0 }

-- A call of the receiving end that is no packet: a run is over.
abbrev pub run_over : ReceiverSide → ReceiverSide
run_over v =
    record {
      end = v.end;
      buffer = v.buffer;
      restarts = v.restarts;
      requests = v.requests;
      days = v.days;
      handed = v.handed;
      reports = v.reports;
      delivered = v.delivered;
      previous = other;
    }

abbrev pub after_keep : RewindWorld → List ℕ → Left Checkpoints Saved → RewindWorld
after_keep w name r =
    record {
      now = receives w.now (run_over w.now.receiving);
      checkpoints = r.end;
      memories = only (is_taken (saved_said r.answer)) (remember name w.now.receiving) ++ w.memories;
      asked = w.asked;
    }

-- A return that is taken counts like a connection.
abbrev pub returned : ReceiverSide → Receiver → Histories → ReceiverSide
returned v e m =
    record {
      end = e;
      buffer = v.buffer;
      restarts = suc v.restarts;
      requests = v.requests;
      days = m.days;
      handed = m.handed;
      reports = m.reports;
      delivered = v.delivered;
      previous = other;
    }

abbrev pub after_restore : RewindWorld → List ℕ → Left Receiver Restored → RewindWorld
after_restore w name r =
    let v = w.now.receiving in
    let taken = is_taken (restored_said r.answer) in
    record {
      now = receives w.now
          (cond taken (returned v r.end (memory_of name (remember name v) w.memories).what) (run_over v));
      checkpoints = w.checkpoints;
      memories = w.memories;
      asked = cond taken (length v.requests) w.asked;
    }

abbrev pub rewind_step : RewindWorld → RewindEvent → RewindWorld
rewind_step w (call e) =
    record { now = step w.now e; checkpoints = w.checkpoints; memories = w.memories; asked = w.asked }
rewind_step w (keep name) = after_keep w name (keep_of w.checkpoints w.now.receiving.end name)
rewind_step w (restore name) = after_restore w name (restore_of w.checkpoints w.now.receiving.end name)

abbrev pub rewind_run : RewindWorld → List RewindEvent → RewindWorld
rewind_run w [] = w
rewind_run w (e ∷ es) = rewind_run (rewind_step w e) es

-- ─── Names, by the request's words ───

-- Allowed: "names of 1 to 8 letters A to Z".
pub record Allowed (name : List ℕ) : Type 0 where
  pub one : 0 < length name
  pub eight : length name ≤ 8
  pub letters : (i x : ℕ) → get_elem? name i ≡ some x → (65 ≤ x) × (x ≤ 90)

-- Keeping and return, with what they come to, of a world.
abbrev pub keeping : RewindWorld → List ℕ → Left Checkpoints Saved
keeping w name = keep_of w.checkpoints w.now.receiving.end name

abbrev pub returning : RewindWorld → List ℕ → Left Receiver Restored
returning w name = restore_of w.checkpoints w.now.receiving.end name

-- The event is a keeping under the name, and is taken; some event along a list is.
abbrev pub KeepsNow : RewindWorld → RewindEvent → List ℕ → Type 0
KeepsNow w (call e) name = ⊥
KeepsNow w (keep n) name = (n ≡ name) × (is_taken (saved_said (keeping w n).answer) ≡ true)
KeepsNow w (restore n) name = ⊥

abbrev pub WasKept : RewindWorld → List RewindEvent → List ℕ → Type 0
WasKept w [] name = ⊥
WasKept w (e ∷ es) name = KeepsNow w e name ⊎ WasKept (rewind_step w e) es name

-- It stands in the list; none stands in the list twice.
abbrev pub In : {A : Type 0} → A → List A → Type 0
In x [] = ⊥
In x (y ∷ l) = (x ≡ y) ⊎ In x l

abbrev pub Apart : {A : Type 0} → List A → Type 0
Apart [] = Unit {0}
Apart (x ∷ l) = (In x l → ⊥) × Apart l

-- Four names were kept, and the name is none of them.
pub record FourOthers (w : RewindWorld) (es : List RewindEvent) (name : List ℕ) : Type 0 where
  pub names : List (List ℕ)
  pub four : length names ≡ 4
  pub apart : Apart (name ∷ names)
  pub kept : (n : List ℕ) → In n names → WasKept w es n

-- ─── The statement ───

-- Every series has the trade date and last number that it had at a keeping.
abbrev pub AsAt : Receiver → Receiver → Type 0
AsAt e m = (s : ℕ) → (day_of e s ≡ day_of m s) × (last_of e s ≡ last_of m s)

pub record RewindAgreement : Type 0 where
  -- Demand 3, first half, of the histories that count.
  pub safe : (log buffer : List ℕ) (es : List RewindEvent) (s d : ℕ)
      → Agreed (rewind_run (rewind_start log buffer) es).now s d
  pub dated : (log buffer : List ℕ) (es : List RewindEvent) →
      let w = (rewind_run (rewind_start log buffer) es).now in
      EachDated w.receiving.handed × EachDated w.receiving.reports
  -- A return that is taken brings back the trade dates and last numbers that the end had at the last keeping of the
  -- name, as it brings back the histories.
  pub restores : (log buffer : List ℕ) (es : List RewindEvent) (name : List ℕ) →
      let w = rewind_run (rewind_start log buffer) es in
      let v = rewind_step w (restore name) in
      let m = memory_of name (remember name w.now.receiving) w.memories in
      is_taken (restored_said (restore_of w.checkpoints w.now.receiving.end name).answer) ≡ true
      → AsAt v.now.receiving.end m.end
  -- It leaves the open series, and clears login and chain of all: of any end and any checkpoints.
  pub clears : (c : Checkpoints) (e : Receiver) (name : List ℕ)
      → is_taken (restored_said (restore_of c e name).answer) ≡ true →
      let v = (restore_of c e name).end in
      (v.kept.count ≡ e.kept.count)
      × (kept_series v ≡ kept_series e)
      × (v.live.series ≡ replicate most_series no_live)
  -- Which refusal is given, exactly if. 31 in both calls: the name is not allowed.
  pub wrong-kept : (c : Checkpoints) (e : Receiver) (name : List ℕ)
      → ((keep_of c e name).answer ≡ Err WrongName) ↔ (Allowed name → ⊥)
  pub wrong-returned : (c : Checkpoints) (e : Receiver) (name : List ℕ)
      → ((restore_of c e name).answer ≡ Err WrongName) ↔ (Allowed name → ⊥)
  -- 32: it is allowed, and four other names were kept.
  pub fifth : (log buffer : List ℕ) (es : List RewindEvent) (name : List ℕ) →
      let w = rewind_start log buffer in
      ((keeping (rewind_run w es) name).answer ≡ Err FifthName) ↔ (Allowed name × FourOthers w es name)
  -- 33: it is allowed, and was not kept before. A return is taken exactly if it is allowed and was.
  pub unknown : (log buffer : List ℕ) (es : List RewindEvent) (name : List ℕ) →
      let w = rewind_start log buffer in
      ((returning (rewind_run w es) name).answer ≡ Err UnknownName) ↔ (Allowed name × (WasKept w es name → ⊥))
  pub known : (log buffer : List ℕ) (es : List RewindEvent) (name : List ℕ) →
      let w = rewind_start log buffer in
      (is_taken (restored_said (returning (rewind_run w es) name).answer) ≡ true) ↔ (Allowed name × WasKept w es name)
  -- Second half: the login's packet, at place i among those of Ask, was asked for behind the last return.
  pub complete : (log buffer : List ℕ) (es fs : List RewindEvent) (s i : ℕ) (content answer : List ℕ) (d : ℕ)
      (a out : List ℕ) →
      let e = call (login s i content answer) in
      let u = rewind_run (rewind_start log buffer) es in
      let v = rewind_step u e in
      let w = rewind_run v fs in
      u.asked ≤ i → CaughtUp u.now v.now w.now s d a out
      → reported w.now s d ≡ length (published_on w.now s d)
  -- Each message sent is on the line, whole, and has a packet.
  pub sent : (log buffer : List ℕ) (es : List RewindEvent) (i : ℕ) (m : InSeries (List (List ℕ))) →
      let v = (rewind_run (rewind_start log buffer) es).now.serving in
      get_elem? v.messages i ≡ some m
      → (0 < length m.what)
      × ((place : ℕ) × (get_elem? v.transmissions place ≡ some (transmission m.series m.what whole)))
  -- The worked rows.
  pub rows : CheckpointRows
  -- Without keeping and return it is the world of before.
  pub plain : (log buffer : List ℕ) (es : List Event)
      → (rewind_run (rewind_start log buffer) (map call es)).now ≡ run (start log buffer) es
