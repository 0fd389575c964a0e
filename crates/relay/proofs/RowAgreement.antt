-- Request No. 14, the row, whole. Assumes nothing.
use Prim.Native.Nat.{ℕ, zero, suc, ◌≤◌}
use native.Mathlib.Omega.{arith}
use mathlib.Core.Path.{◌≡◌, refl, sym, ap, ◌∙◌, subst}
use mathlib.Core.List.{List, [], ◌∷◌, map}
use mathlib.Core.Bool.{true}
use mathlib.Core.Option.{some}
use mathlib.Core.Logic.{◌⊎◌}
use borrow.Author.Tests.{le-leb}
use lib.ListN.{length, take, get_elem?}
use Rattle.ftd.specs.Types.{TradeDate}
use Rattle.flow.specs.declared.order.Order.TheVariants.{Same}
use Rattle.flow.specs.Ends.{up_to, is_served}
use Rattle.flow.specs.Answers.{Message}
use Rattle.flow.specs.World.{SenderSide, World}
use Rattle.flow.specs.Agreement.{of, handed_on, reported}
use Rattle.flow.proofs.common.Days.{Upto}
use Rattle.flow.proofs.common.Extends.{none-some}
use Rattle.flow.proofs.source.Served.{ServedSide}
use Rattle.flow.proofs.rewind.Second.{TimelyRewind, brings}
use Rattle.flow.proofs.OrderLaws.{order-laws}
use Rattle.relay.specs.Agreement.{UpToDate}
use Rattle.relay.specs.Row.{RowWorld, LentRow, start_row, start_row_box, RowEvent, row_step, row_run, line_at}
use Rattle.relay.specs.Row.{last_line, last_returns, RowBox, serving_of, LastEnd, returning, upper}
use Rattle.relay.specs.RowAgreement.{ran_row, exchanged, Begins, CaughtUpAt, CaughtUpTo, node_at, OpenAt, order_at}
use Rattle.relay.specs.RowAgreement.{RowAgreement}
use Rattle.relay.proofs.Rows.{GoodRow, Good, good_start, good-run}
use Rattle.relay.proofs.RowHalves.{agreed-at, joined_at, start-at, whole-at, ahead-at, behind-top, last-at}
use Rattle.relay.proofs.RowHalves.{long-run, top-serving}
use Rattle.relay.proofs.RowOrder.{begins-by, begins-along, two-starts, served-at, sound-at, top-begins}
use Rattle.relay.proofs.RowOrder.{above-begins, lists-order, order-start, order-either, never-damaged}
use Rattle.relay.proofs.RowEnough.{row-enough}
use Rattle.relay.proofs.RowCovers.{boxes-called, no-box, no-box-returns, one-box}
use Rattle.relay.proofs.RowHalves.{row-append, same-day, line-whole, There, one-day-at}
use Rattle.std.specs.Prelude.{Some, None}

good : (l : LentRow) (es : List RowEvent) → Good (ran_row l es)
good l es = good-run (start_row l) (good_start l) es

-- ─── The number of boxes ───

map-long : {A B : Type 0} (f : A → B) (l : List A) → length (map f l) ≡ length l
map-long f [] = refl
map-long f (x ∷ l) = ap suc (map-long f l)

boxes-long : (l : LentRow) (es : List RowEvent) → length (ran_row l es).boxes ≡ length l.boxes
boxes-long l es = long-run (start_row l) (good_start l) es ∙ map-long start_row_box l.boxes

boxes-two : (l : LentRow) (es fs : List RowEvent)
    → length (row_run (ran_row l es) fs).boxes ≡ length l.boxes
boxes-two l es fs = long-run (ran_row l es) (good l es) fs ∙ boxes-long l es

place-there : {A : Type 0} (l : List A) (k : ℕ) (x : A) → get_elem? l k ≡ some x → suc k ≤ length l
place-there [] k x q = absurd (none-some x q)
place-there (y ∷ l) zero x q = omega arith
place-there (y ∷ l) (suc k) x q = let n = place-there l k x q in omega arith

-- ─── Starts ───

begins-at : (l : LentRow) (es : List RowEvent) (k s d : ℕ)
    → Begins (handed_on (line_at (ran_row l es) k) s d) (exchanged (ran_row l es) s d)
begins-at l es k s d =
    let w = ran_row l es in
    begins-by (reported (line_at w k) s d) (handed_on (line_at w k) s d) (exchanged w s d)
    (start-at s d w.exchange w.boxes w.last (good l es) k)

node-begins : (l : LentRow) (es : List RowEvent) (k s d : ℕ)
    → Begins (of s d (node_at (ran_row l es) k).published) (exchanged (ran_row l es) s d)
node-begins l es k s d =
    let w = ran_row l es in top-begins s d w.exchange w.boxes w.last (good l es) k

-- Two lists that begin those of one exchange, the second of it then or later.
either-begins : (a b p q : List Message) → Begins a p → Begins p q → Begins b q → Begins a b ⊎ Begins b a
either-begins a b p q f e g = let c = begins-along a p q f e in two-starts a c.0 b g.0 q c.1 g.1

-- ─── Days ───

upto_is : (d : ℕ) (a b : TradeDate) → a ≡ Some d → Upto a b → up_to d b ≡ true
upto_is d None b q u = let z : ◌≡◌ {A = ℕ} 0 1 = cc in absurd (omega arith)
upto_is d (Some c) None q u = absurd u
upto_is d (Some c) (Some e) q u = let f : c ≡ d = cc in le-leb d e (omega arith)

same_at : (a : TradeDate) (c d : ℕ) → a ≡ Some c → a ≡ Some d → c ≡ d
same_at a c d p q = let z : Some c ≡ Some d = sym p ∙ q in cc

-- ─── The second half ───

-- On line k: all is there, of the login's day, which is the serving side's.
pub record Up (w : World) (s : ℕ) : Type 0 where
  pub there : There w s
  pub up : UpToDate w s there.0

up_at : (l : LentRow) (es : List RowEvent) (k s : ℕ) → CaughtUpAt l es k s → Up (line_at (ran_row l es) k) s
up_at l es k s c =
    let o = start_row l in
    let u = ran_row l c.before in
    let v = row_step u c.login in
    let w = row_run v c.behind in
    let same : ran_row l es ≡ w = ap (λ (x : List RowEvent). row_run o x) c.parts ∙ row-append o c.before _ in
    let today =
    same-day o (good_start l) c.before c.behind c.login k s c.day c.answer c.out c.caught in
    let done =
    line-whole o (good_start l) c.before c.behind c.login k s c.day c.answer c.out c.caught
    c.asked c.takes in
    subst (λ (x : RowWorld). Up (line_at x k) s) (sym same)
    (record { there = (c.day, today, done.1); up = done.0 })

module _ (l : LentRow) (es : List RowEvent) (n s d : ℕ) (c : CaughtUpTo l es n s)
    (q : (ran_row l es).exchange.day ≡ Some d) where
  abbrev w : RowWorld
  w = ran_row l es

  one-day : (k : ℕ) → k ≤ suc n → (line_at w k).serving.day ≡ Some d
  one-day =
      one-day-at s d w.exchange w.boxes w.last (good l es) n (λ k f. (up_at l es k s (c k f)).there) q

  up-to-date : (k : ℕ) → k ≤ n → UpToDate (line_at w k) s d
  up-to-date k f =
      let y = up_at l es k s (c k f) in
      let same = same_at (line_at w k).serving.day y.there.0 d y.there.1 (one-day k (omega arith)) in
      subst (λ (x : ℕ). UpToDate (line_at w k) s x) same y.up

  completes : handed_on (line_at w n) s d ≡ exchanged w s d
  completes = whole-at s d w.exchange w.boxes w.last (good l es) n up-to-date

-- ─── The last line ───

last-is : (l : LentRow) (es : List RowEvent) → line_at (ran_row l es) (length l.boxes) ≡ last_line (ran_row l es)
last-is l es =
    let w = ran_row l es in
    ap (line_at w) (sym (boxes-long l es)) ∙ last-at w.exchange w.boxes w.last

last-timely : (x : SenderSide) (ns : List RowBox) (r : LastEnd) → GoodRow x ns r
    → TimelyRewind (returning (upper x ns) r)
last-timely x [] r g = g.timely
last-timely x (n ∷ ns) r g = last-timely (serving_of n) ns r g.2

-- ─── The nodes as serving ends ───

served : (l : LentRow) (es : List RowEvent) (k : ℕ) → ServedSide (node_at (ran_row l es) k)
served l es k = let w = ran_row l es in served-at w.exchange w.boxes w.last (good l es) k

served-exchange : (l : LentRow) (es : List RowEvent) → ServedSide (ran_row l es).exchange
served-exchange l es =
    let w = ran_row l es in subst ServedSide (top-serving w.exchange w.boxes w.last) (served l es 0)

same-order : (l : LentRow) (es : List RowEvent) (n s d : ℕ) → suc n ≤ length l.boxes → CaughtUpTo l es n s →
    let w = ran_row l es in
    OpenAt w.exchange s d → is_served (node_at w (suc n)).end s ≡ true
    → order_at s (node_at w (suc n)) w.exchange ≡ Same
same-order l es n s d f c x y =
    let w = ran_row l es in
    let a = node_at w (suc n) in
    let h = served l es (suc n) in
    let i = served-exchange l es in
    let today : w.exchange.day ≡ Some d = sym i.same-day ∙ x.0 in
    let long = boxes-long l es in
    let there = joined_at s d w.exchange w.boxes w.last (good l es) n (omega (arith, long, f)) in
    let day : a.end.day.date ≡ Some d = h.same-day ∙ one-day l es n s d c today (suc n) (omega arith) in
    lists-order a w.exchange h i s d (day, y) x
    ∙ (order-laws.same_lists (of s d a.published) (exchanged w s d)).1 (there ∙ completes l es n s d c today)

pub row-agreement : RowAgreement
row-agreement =
    record {
      each_line = λ l es k s d.
          let w = ran_row l es in agreed-at s d w.exchange w.boxes w.last (good l es) k;
      joined = λ l es k s d f.
          let w = ran_row l es in
          let n = boxes-long l es in
          joined_at s d w.exchange w.boxes w.last (good l es) k (omega (arith, n, f));
      each-node = λ l es k s d.
          let w = ran_row l es in start-at s d w.exchange w.boxes w.last (good l es) k;
      row-safe = λ l es s d.
          let w = ran_row l es in
          let n = length l.boxes in
          subst
          (λ (x : World). (length (handed_on x s d) ≡ reported x s d)
          × (handed_on x s d ≡ take (reported x s d) (exchanged w s d)) × Begins (handed_on x s d) (exchanged w s d))
          (last-is l es) (
            (agreed-at s d w.exchange w.boxes w.last (good l es) n).exactly,
            start-at s d w.exchange w.boxes w.last (good l es) n,
            begins-at l es n s d,
          );
      days = λ l es k d q.
          let w = ran_row l es in
          upto_is d _ _ q (ahead-at w.exchange w.boxes w.last (good l es) k);
      days-exchange = λ l es k d q.
          let w = ran_row l es in
          upto_is d _ _ q (behind-top w.exchange w.boxes w.last (good l es) k);
      one-day = one-day;
      complete = completes;
      row-complete = λ l es s d c q.
          subst (λ (x : World). handed_on x s d ≡ exchanged (ran_row l es) s d) (last-is l es)
          (completes l es (length l.boxes) s d c q);
      log-enough = λ l es fs k s d b q.
          let there = place-there l.boxes k b q in
          let n = boxes-two l es fs in
          row-enough l es fs k s d b q (omega (arith, n, there));
      restores = λ l es name.
          let w = ran_row l es in
          brings (last_returns w) (last-timely w.exchange w.boxes w.last (good l es)) name;
      each-box = λ w k c n q.
          let h = boxes-called w.exchange w.boxes w.last k c n q in (h.0, h.1, refl, refl);
      no-box = no-box;
      no-box-returns = no-box-returns;
      one-box = λ l i f es. one-box i l f es;
      one-begins = λ l m es fs j k s d e.
          let w = ran_row l es in
          let v = ran_row m fs in
          either-begins (handed_on (line_at w j) s d) (handed_on (line_at v k) s d) (exchanged w s d) (exchanged v s d)
          (begins-at l es j s d) e (begins-at m fs k s d);
      sound = λ l es k s d.
          let w = ran_row l es in sound-at w.exchange w.boxes w.last (good l es) k s d;
      order-lists = λ l m es fs j k s d.
          lists-order (node_at (ran_row l es) j) (node_at (ran_row m fs) k) (served l es j) (served m fs k) s d;
      order-undamaged = λ l m es fs j k s.
          never-damaged (node_at (ran_row l es) j) (node_at (ran_row m fs) k) (served l es j) (served m fs k) s;
      order-boxes = λ l m es fs j k s d e x y.
          let w = ran_row l es in
          let v = ran_row m fs in
          order-either (node_at w j) (node_at v k) (served l es j) (served m fs k) s d x y
          (either-begins (of s d (node_at w j).published) (of s d (node_at v k).published) (exchanged w s d)
          (exchanged v s d) (node-begins l es j s d) e (node-begins m fs k s d));
      order-exchange = λ l m es fs k s d e x y.
          let w = ran_row l es in
          let v = ran_row m fs in
          order-start (node_at w k) v.exchange (served l es k) (served-exchange m fs) s d x y
          (begins-along (of s d (node_at w k).published) (exchanged w s d) (exchanged v s d) (node-begins l es k s d)
          e);
      order-above = λ l es j k s d f x y.
          let w = ran_row l es in
          order-start (node_at w k) (node_at w j) (served l es k) (served l es j) s d x y
          (above-begins s d w.exchange w.boxes w.last (good l es) j k f);
      order-complete = same-order;
    }
