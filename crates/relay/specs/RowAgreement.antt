-- Request No. 14, the row: what the last end handed on is a start of what the exchange published, and all of it where
-- demand 3's second half holds on each line. The number of boxes is any, 0 too: then it is demand 3. The last end may
-- keep and return (02, No. 13): its list is then as counted there. The first half asks nothing of what a line hands
-- over (02, No. 10); the second counts deliveries as runs, on each line by the calls of its own receiving end.
use Rattle.std.specs.Prelude.{ℕ, suc, ◌<◌, ◌≤◌, ◌≡◌, List, [], ◌∷◌, ◌++◌, true, ◌⊎◌, length, take}
use Rattle.std.proofs.Math.Option.{some}
use Rattle.std.proofs.Math.ListN.{get_elem?}
use Rattle.ftd.specs.declared.refusal.Refusal.TheVariants.{DamagedLog}
use Rattle.flow.specs.declared.order.Order.{Order}
use Rattle.flow.specs.declared.order.Order.TheVariants.{Same, FirstStarts, SecondStarts, Refused}
use Rattle.flow.specs.Ends.{up_to, kept_series, is_served}
use Rattle.flow.specs.Answers.{Message, is_taken, restored_said}
use Rattle.flow.specs.Checkpoints.{restore_of}
use Rattle.flow.specs.World.{SenderSide, Event, login, start, step, run}
use Rattle.flow.specs.Rewind.{RewindEvent, restore, memory_of, remember, rewind_start, rewind_run, AsAt}
use Rattle.flow.specs.Agreement.{of, published_on, handed_on, reported, Agreed, since, CaughtUp}
use Rattle.flow.specs.Order.{logged, order_from, order_of}
use Rattle.relay.specs.Box.{reserves_of}
use Rattle.relay.specs.World.{Lent, BoxEvent, above, below}
use Rattle.relay.specs.Agreement.{needed, ran}
use Rattle.relay.specs.Row.{RowWorld, LentNode, LentRow, start_row, RowEvent, row_step, row_run, line_at, last_line}
use Rattle.relay.specs.Row.{refused_in, reserves_in, asked_at, last_returns, at_box, at_last, RowBox, NodeCall}
use Rattle.relay.specs.Row.{node_step}
use Rattle.std.specs.Prelude.{Some}

-- The row after a list of events, refused ones included.
abbrev pub ran_row : LentRow → List RowEvent → RowWorld
ran_row l es = row_run (start_row l) es

-- What the exchange published.
abbrev pub exchanged : RowWorld → ℕ → ℕ → List Message
exchanged w s d = of s d w.exchange.published

-- a is a start of b.
abbrev pub Begins : List Message → List Message → Type 0
Begins a b = (more : List Message) × (b ≡ a ++ more)

-- ─── The conditions of demand 3's second half on line k, for series s ───

-- Since v the box below line k turned away no message of series s and day d by the publication, nor an answer by the
-- opening.
abbrev pub TakesAt : RowWorld → RowWorld → ℕ → ℕ → ℕ → Type 0
TakesAt v w k s d = of s d (since (refused_in v.boxes k) (refused_in w.boxes k)) ≡ []

-- The login is behind the last return of the line's lower end (02, No. 13): none was taken, or the login was handed a
-- packet that was asked for since, at place i.
abbrev pub AskedSince : RowWorld → RowWorld → ℕ → ℕ → Type 0
AskedSince u v k s =
    (asked_at u k ≡ 0)
    ⊎ ((i : ℕ) × (content : List ℕ) × (out : List ℕ) × (asked_at u k ≤ i)
    × (line_at v k ≡ step (line_at u k) (login s i content out)))

-- The line's own last login parts the list: u is the row before it, v behind it, w at the list's end. If the lower end
-- is a box, its log took each message of that series and day since.
pub record CaughtUpAt (l : LentRow) (es : List RowEvent) (k s : ℕ) : Type 0 where
  pub before : List RowEvent
  pub login : RowEvent
  pub behind : List RowEvent
  pub parts : es ≡ before ++ (login ∷ behind)
  pub day : ℕ
  pub answer : List ℕ
  pub out : List ℕ
  pub caught :
      let u = ran_row l before in
      let v = row_step u login in
      let w = row_run v behind in
      CaughtUp (line_at u k) (line_at v k) (line_at w k) s day answer out
  pub asked : AskedSince (ran_row l before) (row_step (ran_row l before) login) k s
  pub takes :
      let v = row_step (ran_row l before) login in
      let w = row_run v behind in
      TakesAt v w k s day

-- On each line down to line n, each with its own login.
abbrev pub CaughtUpTo : LentRow → List RowEvent → ℕ → ℕ → Type 0
CaughtUpTo l es n s = (k : ℕ) → k ≤ n → CaughtUpAt l es k s

-- What the series of the box below line k take together, with their reserves, of what the node above it published of
-- day d (No. 3's `needed`).
abbrev pub needed_at : RowWorld → ℕ → ℕ → ℕ
needed_at w k d =
    let e = (line_at w k).receiving.end in
    needed (kept_series e) (reserves_of e (reserves_in w.boxes k)) d (line_at w k).serving.published

-- ─── The nodes as serving ends, for the order of two (part two of the request) ───

-- Node 0 is the exchange, node k from 1 the k-th box (above the number of the boxes: the last one).
abbrev pub node_at : RowWorld → ℕ → SenderSide
node_at w k = (line_at w k).serving

-- Day d is open there, and series s in it.
abbrev pub OpenAt : SenderSide → ℕ → ℕ → Type 0
OpenAt v s d = (v.end.day.date ≡ Some d) × (is_served v.end s ≡ true)

-- The order of two, each with its own log.
abbrev pub order_at : ℕ → SenderSide → SenderSide → Order
order_at s a b = order_of s a.end a.log b.end b.log

-- ─── A row of no box, and of one ───

abbrev pub no_box : List ℕ → List ℕ → LentRow
no_box log buffer = record { exchange_log = log; boxes = []; buffer = buffer }

-- Of No. 3's whole: the line from above, the box, and the line of seat i.
abbrev pub one_box : Lent → (i : ℕ) → i < 16 → LentRow
one_box l i f =
    record {
      exchange_log = l.exchange_log;
      boxes = record { seat = i; there = f; log = l.log; buffer = l.buffer } ∷ [];
      buffer = l.buffers i;
    }

-- ─── The request ───

-- Lines are numbered from 0; line N, N the number of the boxes, is the last one (and so is any number above it).
pub record RowAgreement : Type 0 where
  -- First half. On each line;
  pub each_line : (l : LentRow) (es : List RowEvent) (k s d : ℕ) → Agreed (line_at (ran_row l es) k) s d
  -- what a box publishes is what it handed on;
  pub joined : (l : LentRow) (es : List RowEvent) (k s d : ℕ) → suc k ≤ length l.boxes →
      let w = ran_row l es in
      published_on (line_at w (suc k)) s d ≡ handed_on (line_at w k) s d
  -- so at each node what was handed on is the first n of what the exchange published, n its last report;
  pub each-node : (l : LentRow) (es : List RowEvent) (k s d : ℕ) →
      let w = ran_row l es in
      handed_on (line_at w k) s d ≡ take (reported (line_at w k) s d) (exchanged w s d)
  -- at the last end.
  pub row-safe : (l : LentRow) (es : List RowEvent) (s d : ℕ) →
      let w = ran_row l es in
      (length (handed_on (last_line w) s d) ≡ reported (last_line w) s d)
      × (handed_on (last_line w) s d ≡ take (reported (last_line w) s d) (exchanged w s d))
      × Begins (handed_on (last_line w) s d) (exchanged w s d)
  -- Days never run ahead: from line to line, and so against the exchange's.
  pub days : (l : LentRow) (es : List RowEvent) (k d : ℕ) →
      let w = ran_row l es in
      (line_at w (suc k)).serving.day ≡ Some d → up_to d (line_at w k).serving.day ≡ true
  pub days-exchange : (l : LentRow) (es : List RowEvent) (k d : ℕ) →
      let w = ran_row l es in
      (line_at w k).serving.day ≡ Some d → up_to d w.exchange.day ≡ true
  -- Second half. With these conditions the exchange's day is open at every box between (so it needs not be asked for);
  pub one-day : (l : LentRow) (es : List RowEvent) (n s d : ℕ) → CaughtUpTo l es n s →
      let w = ran_row l es in
      w.exchange.day ≡ Some d → (k : ℕ) → k ≤ suc n → (line_at w k).serving.day ≡ Some d
  -- and a node's list is the whole;
  pub complete : (l : LentRow) (es : List RowEvent) (n s d : ℕ) → CaughtUpTo l es n s →
      let w = ran_row l es in
      w.exchange.day ≡ Some d → handed_on (line_at w n) s d ≡ exchanged w s d
  -- at the last end.
  pub row-complete : (l : LentRow) (es : List RowEvent) (s d : ℕ) → CaughtUpTo l es (length l.boxes) s →
      let w = ran_row l es in
      w.exchange.day ≡ Some d → handed_on (last_line w) s d ≡ exchanged w s d
  -- A log of this length takes each message of the day, and its opening: what the box's series take of what the node
  -- above published of that day.
  pub log-enough : (l : LentRow) (es fs : List RowEvent) (k s d : ℕ) (b : LentNode)
      → get_elem? l.boxes k ≡ some b →
      let v = ran_row l es in
      let w = row_run v fs in
      needed_at w k d ≤ length b.log → TakesAt v w k s d
  -- Two nodes, of one row or of two that are fed by one exchange: its publications are the same, or have only grown.
  -- The list of one is a start of the other's.
  pub one-begins : (l m : LentRow) (es fs : List RowEvent) (j k s d : ℕ) →
      let w = ran_row l es in
      let v = ran_row m fs in
      Begins (exchanged w s d) (exchanged v s d) →
      Begins (handed_on (line_at w j) s d) (handed_on (line_at v k) s d)
      ⊎ Begins (handed_on (line_at v k) s d) (handed_on (line_at w j) s d)
  -- The log of each node is sound: its entries of an open series are what it published there of its day;
  pub sound : (l : LentRow) (es : List RowEvent) (k s d : ℕ) →
      let v = node_at (ran_row l es) k in
      OpenAt v s d → logged v.end v.log s ≡ some (of s d v.published)
  -- so the order of two nodes, of any rows, is that of what they published, and never 20.
  pub order-lists : (l m : LentRow) (es fs : List RowEvent) (j k s d : ℕ) →
      let a = node_at (ran_row l es) j in
      let b = node_at (ran_row m fs) k in
      OpenAt a s d → OpenAt b s d → order_at s a b ≡ order_from 1 (of s d a.published) (of s d b.published)
  pub order-undamaged : (l m : LentRow) (es fs : List RowEvent) (j k s : ℕ) →
      order_at s (node_at (ran_row l es) j) (node_at (ran_row m fs) k) ≡ Refused DamagedLog → ⊥
  -- Two nodes of one row, or of two that are fed by one exchange: the same, or one is a start of the other; no refusal,
  -- and no number where they differ.
  pub order-boxes : (l m : LentRow) (es fs : List RowEvent) (j k s d : ℕ) →
      let w = ran_row l es in
      let v = ran_row m fs in
      Begins (exchanged w s d) (exchanged v s d) → OpenAt (node_at w j) s d → OpenAt (node_at v k) s d →
      let o = order_at s (node_at w j) (node_at v k) in
      (o ≡ Same) ⊎ (o ≡ FirstStarts) ⊎ (o ≡ SecondStarts)
  -- A node and its exchange, then or later: the same, or the node is the start.
  pub order-exchange : (l m : LentRow) (es fs : List RowEvent) (k s d : ℕ) →
      let w = ran_row l es in
      let v = ran_row m fs in
      Begins (exchanged w s d) (exchanged v s d) → OpenAt (node_at w k) s d → OpenAt v.exchange s d →
      let o = order_at s (node_at w k) v.exchange in
      (o ≡ Same) ⊎ (o ≡ FirstStarts)
  -- A node and any above it in its row likewise.
  pub order-above : (l : LentRow) (es : List RowEvent) (j k s d : ℕ) → j ≤ k →
      let w = ran_row l es in
      OpenAt (node_at w k) s d → OpenAt (node_at w j) s d →
      let o = order_at s (node_at w k) (node_at w j) in
      (o ≡ Same) ⊎ (o ≡ FirstStarts)
  -- With the second half's conditions down to it, a box is the same as its exchange.
  pub order-complete : (l : LentRow) (es : List RowEvent) (n s d : ℕ) → suc n ≤ length l.boxes
      → CaughtUpTo l es n s →
      let w = ran_row l es in
      OpenAt w.exchange s d → is_served (node_at w (suc n)).end s ≡ true
      → order_at s (node_at w (suc n)) w.exchange ≡ Same
  -- A return of the last end that is taken brings back the trade dates and last numbers that it had at the last keeping
  -- of the name, as it brings back what was handed on and reported.
  pub restores : (l : LentRow) (es : List RowEvent) (name : List ℕ) →
      let w = ran_row l es in
      let v = row_step w (at_last (restore name)) in
      let m = memory_of name (remember name w.last.receiving) w.last.memories in
      is_taken (restored_said (restore_of w.last.checkpoints w.last.receiving.end name).answer) ≡ true
      → AsAt v.last.receiving.end m.end
  -- A call of a box, at any place of the row, is that of No. 3's box between its two neighbours, and changes nothing
  -- else.
  pub each-box : (w : RowWorld) (k : ℕ) (c : NodeCall) (n : RowBox) → get_elem? w.boxes k ≡ some n →
      let v = row_step w (at_box k c) in
      (get_elem? v.boxes k ≡ some (node_step (node_at w k) n (line_at w (suc k)).receiving c))
      × ((j : ℕ) → (j ≡ k → ⊥) → get_elem? v.boxes j ≡ get_elem? w.boxes j)
      × (v.exchange ≡ w.exchange) × (v.last ≡ w.last)
  -- A row of no box is demand 3, with named places too, and a row of one is No. 3 at each seat: every list there is a
  -- list here.
  pub no-box : (log buffer : List ℕ) (es : List Event)
      → (fs : List RowEvent)
      × (line_at (ran_row (no_box log buffer) fs) 0 ≡ run (start log buffer) es)
  pub no-box-returns : (log buffer : List ℕ) (es : List RewindEvent)
      → (fs : List RowEvent)
      × (last_returns (ran_row (no_box log buffer) fs) ≡ rewind_run (rewind_start log buffer) es)
  pub one-box : (l : Lent) (i : ℕ) (f : i < 16) (es : List BoxEvent)
      → (fs : List RowEvent)
      × (line_at (ran_row (one_box l i f) fs) 0 ≡ above (ran l es))
      × (line_at (ran_row (one_box l i f) fs) 1 ≡ below (ran l es) i)
