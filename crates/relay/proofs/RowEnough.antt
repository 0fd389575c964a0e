-- In the row: a log that holds what the box's series take of what the node above published of a day takes each message
-- of that day, and its opening. Assumes nothing.
use Prim.Native.Nat.{ℕ, zero, suc, ◌≤◌}
use native.Mathlib.Omega.{arith}
use mathlib.Core.Path.{◌≡◌, refl, ap, ◌∙◌}
use mathlib.Core.List.{List, [], ◌∷◌, map}
use mathlib.Core.Option.{some}
use lib.ListN.{length, get_elem?}
use Rattle.ftd.specs.declared.refusal.Refusal.{Refusal}
use Rattle.flow.specs.Ends.{kept_series}
use Rattle.flow.specs.World.{Dated, SenderSide}
use Rattle.flow.specs.Agreement.{of, since}
use Rattle.flow.proofs.common.Extends.{Extends, none-some}
use Rattle.flow.proofs.common.Lists.{since-along}
use Rattle.flow.proofs.common.Histories.{of-append}
use Rattle.flow.proofs.source.Growth.{move-grows}
use Rattle.flow.proofs.lines.Moves.{line-moves}
use Rattle.relay.specs.Box.{reserves_of}
use Rattle.relay.specs.World.{start_node}
use Rattle.relay.specs.Agreement.{needed, needed_by}
use Rattle.relay.specs.Row.{RowBox, serving_of, LastEnd, RowWorld, line_in, refused_in, reserves_in, LentNode}
use Rattle.relay.specs.Row.{LentRow, start_row_box, start_row, RowEvent, row_step, row_run}
use Rattle.relay.specs.RowAgreement.{TakesAt, needed_at}
use Rattle.relay.proofs.Sums.{needed-more}
use Rattle.relay.proofs.Books.{reserves_at}
use Rattle.relay.proofs.Enough.{keeps-needs, no_more}
use Rattle.relay.proofs.Rows.{NodeMoved, Good, Moved, ends, joins, row-moves, good-step, good-run, good_start}
use Rattle.relay.proofs.RowHalves.{moved-refuses, line-run}

-- ─── The log of the box below line k ───

abbrev log_in : List RowBox → ℕ → List ℕ
log_in [] k = []
log_in (n ∷ ns) zero = n.node.log
log_in (n ∷ ns) (suc k) = log_in ns k

moved-log : {x y : SenderSide} {ns ms : List RowBox} {r t : LastEnd} → Moved x y ns ms r t → (k : ℕ)
    → length (log_in ms k) ≡ length (log_in ns k)
moved-log (ends a h) k = refl
moved-log (joins a b) zero = a.changed.long
moved-log (joins a b) (suc k) = moved-log b k

-- What its series take; the last end has no log.
abbrev needed_in : SenderSide → List RowBox → ℕ → ℕ → ℕ
needed_in x [] k d = 0
needed_in x (n ∷ ns) zero d = needed_by n.node d x.published
needed_in x (n ∷ ns) (suc k) d = needed_in (serving_of n) ns k d

moved-takes : {x y : SenderSide} {ns ms : List RowBox} {r t : LastEnd} → Moved x y ns ms r t → (k s d : ℕ)
    → needed_in x ns k d ≤ length (log_in ns k) → of s d (since (refused_in ns k) (refused_in ms k)) ≡ []
moved-takes (ends a h) k s d f = refl
moved-takes (joins a b) zero s d f = a.changed.takes s d f
moved-takes (joins a b) (suc k) s d f = moved-takes b k s d f

-- It only grows.
node-needs : (x y : SenderSide) (n m : RowBox) → NodeMoved x y n m → (d : ℕ)
    → needed_by n.node d x.published ≤ needed_by m.node d y.published
node-needs x y n m a d =
    let k = keeps-needs n.node m.node a.changed.keeps d x.published in
    let z = (move-grows x y (line-moves a.moves.step_of)).published in
    let b : needed_by m.node d x.published ≤ needed_by m.node d y.published =
    rw z.1 (needed-more d (kept_series m.node.receiving.end) (reserves_at m.node) x.published z.0) in
    omega arith

moved-needs : {x y : SenderSide} {ns ms : List RowBox} {r t : LastEnd} → Moved x y ns ms r t → (k d : ℕ)
    → needed_in x ns k d ≤ needed_in y ms k d
moved-needs (ends a h) k d = omega arith
moved-needs {x} {y} {ns = n ∷ ns} {ms = m ∷ ms} (joins a b) zero d = node-needs x y n m a d
moved-needs (joins a b) (suc k) d = moved-needs b k d

-- ─── Every list ───

abbrev needs : RowWorld → ℕ → ℕ → ℕ
needs w k d = needed_in w.exchange w.boxes k d

needs-run : (w : RowWorld) → Good w → (es : List RowEvent) (k d : ℕ) → needs w k d ≤ needs (row_run w es) k d
needs-run w g [] k d = omega arith
needs-run w g (e ∷ es) k d =
    let a = moved-needs (row-moves w g e) k d in
    let b = needs-run (row_step w e) (good-step w g e) es k d in
    omega arith

none-all : (a b c : List (Dated Refusal)) → Extends a b → Extends b c → (s d : ℕ) → of s d (since a b) ≡ []
    → of s d (since b c) ≡ [] → of s d (since a c) ≡ []
none-all a b c f g s d p q =
    ap (of s d) (since-along a b c f g) ∙ of-append s d (since a b) (since b c) ∙ rw (p, q)

enough-run : (k s d : ℕ) (w : RowWorld) → Good w → (es : List RowEvent)
    → needs (row_run w es) k d ≤ length (log_in w.boxes k) → TakesAt w (row_run w es) k s d
enough-run k s d w g [] room = no_more s d (refused_in w.boxes k) (refused_in w.boxes k) refl
enough-run k s d w g (e ∷ es) room =
    let v = row_step w e in
    let u = row_run v es in
    let m = row-moves w g e in
    let h = good-step w g e in
    let n = needs-run w g (e ∷ es) k d in
    let long = moved-log m k in
    none-all (refused_in w.boxes k) (refused_in v.boxes k) (refused_in u.boxes k) (moved-refuses m k)
    (line-run v h es k).refuses s d (moved-takes m k s d (omega arith)) (enough-run k s d v h es (omega arith))

log-run : (k : ℕ) (w : RowWorld) → Good w → (es : List RowEvent)
    → length (log_in (row_run w es).boxes k) ≡ length (log_in w.boxes k)
log-run k w g [] = refl
log-run k w g (e ∷ es) = log-run k (row_step w e) (good-step w g e) es ∙ moved-log (row-moves w g e) k

start-log : (l : LentNode) → (start_row_box l).node.log ≡ l.log
unfolding start_node
start-log l = refl

lent-log : (ls : List LentNode) (k : ℕ) (b : LentNode) → get_elem? ls k ≡ some b
    → log_in (map start_row_box ls) k ≡ b.log
lent-log [] k b q = absurd (none-some b q)
lent-log (l ∷ ls) zero b q = let f : l ≡ b = cc in start-log l ∙ ap (λ (x : LentNode). x.log) f
lent-log (l ∷ ls) (suc k) b q = lent-log ls k b q

-- Of a box it is the statement's.
needed-is : (x : SenderSide) (ns : List RowBox) (r : LastEnd) (k d : ℕ) → suc k ≤ length ns →
    let e = (line_in x ns r k).receiving.end in
    needed_in x ns k d ≡ needed (kept_series e) (reserves_of e (reserves_in ns k)) d (line_in x ns r k).serving.published
needed-is x [] r k d l = absurd (omega arith)
needed-is x (n ∷ ns) r zero d l = refl
needed-is x (n ∷ ns) r (suc k) d l = needed-is (serving_of n) ns r k d (omega arith)

pub row-enough : (l : LentRow) (es fs : List RowEvent) (k s d : ℕ) (b : LentNode) → get_elem? l.boxes k ≡ some b
    → suc k ≤ length (row_run (row_run (start_row l) es) fs).boxes
    → needed_at (row_run (row_run (start_row l) es) fs) k d ≤ length b.log
    → TakesAt (row_run (start_row l) es) (row_run (row_run (start_row l) es) fs) k s d
row-enough l es fs k s d b q there room =
    let o = start_row l in
    let w = row_run (row_run o es) fs in
    let n : length (log_in (row_run o es).boxes k) ≡ length b.log =
    log-run k o (good_start l) es ∙ ap length (lent-log l.boxes k b q) in
    let m = needed-is w.exchange w.boxes w.last k d there in
    enough-run k s d (row_run o es) (good-run o (good_start l) es) fs (omega (arith, n, m, room))
