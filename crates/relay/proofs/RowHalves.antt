-- Both halves of demand 3 along the row, by induction over the boxes. Assumes nothing.
use Prim.Native.Nat.{ℕ, zero, suc, ◌≤◌}
use native.Mathlib.Omega.{arith}
use mathlib.Core.Path.{◌≡◌, refl, sym, ap, ◌∙◌, subst}
use mathlib.Core.List.{List, [], ◌∷◌, ◌++◌}
use mathlib.Core.Logic.{inl, inr}
use lib.ListN.{length, take}
use Rattle.ftd.specs.declared.refusal.Refusal.{Refusal}
use Rattle.ftd.specs.Types.{TradeDate}
use Rattle.flow.specs.Answers.{Message}
use Rattle.flow.specs.World.{in_series, Dated, login, SenderSide, World, step}
use Rattle.flow.specs.Agreement.{of, since, published_on, handed_on, reported, Agreed, CaughtUp}
use Rattle.flow.proofs.common.Days.{Upto, upto-along, upto-same}
use Rattle.flow.proofs.common.Extends.{Extends, extends-same, extends-along}
use Rattle.flow.proofs.common.Lists.{since-along, append-empty}
use Rattle.flow.proofs.common.Histories.{of-append}
use Rattle.flow.proofs.lines.Steps.{LineStep, calls, rests, turns-answer, turns-receive, Steps, none, then, SparesAll}
use Rattle.flow.proofs.lines.Moves.{line-moves}
use Rattle.flow.proofs.source.Days.{day-rises}
use Rattle.flow.proofs.first.Half.{SafeWorld, safe-agreed}
use Rattle.flow.proofs.logins.Starts.{Timely}
use Rattle.flow.proofs.logins.Taken.{LoginTaken, no-append}
use Rattle.flow.proofs.second.Due.{grows-line}
use Rattle.flow.proofs.second.Half.{caught-up, settled, AllThere}
use Rattle.flow.proofs.rewind.Second.{same_place}
use Rattle.relay.specs.World.{line}
use Rattle.relay.specs.Agreement.{UpToDate}
use Rattle.relay.specs.Row.{RowBox, serving_of, LastEnd, RowWorld, upper, line_in, line_at, asked_in, asked_at}
use Rattle.relay.specs.Row.{refused_in, RowEvent, row_step, row_run}
use Rattle.relay.specs.RowAgreement.{TakesAt, AskedSince}
use Rattle.relay.proofs.Halves.{steps-day}
use Rattle.relay.proofs.Numbers.{take-take, enough, take_whole}
use Rattle.relay.proofs.Nodes.{GoodLine, Whole, under}
use Rattle.relay.proofs.Rows.{GoodRow, Good, LineMoved, goes, returns, Moved, ends, joins, row-moves}
use Rattle.relay.proofs.Rows.{good-step, good-run}
use Rattle.std.specs.Prelude.{Some, None}

-- ─── Line by line ───

pub top-serving : (x : SenderSide) (ns : List RowBox) (r : LastEnd) → (line_in x ns r 0).serving ≡ x
top-serving x [] r = refl
top-serving x (n ∷ ns) r = refl

pub timely-at : (x : SenderSide) (ns : List RowBox) (r : LastEnd) → GoodRow x ns r → (k : ℕ)
    → Timely (asked_in ns r k) (line_in x ns r k)
timely-at x [] r g k = g.timely.timely
timely-at x (n ∷ ns) r g zero = g.1.timely
timely-at x (n ∷ ns) r g (suc k) = timely-at (serving_of n) ns r g.2 k

pub safe_at : (x : SenderSide) (ns : List RowBox) (r : LastEnd) → GoodRow x ns r → (k : ℕ) → SafeWorld (line_in x ns r k)
safe_at x [] r g k = g.safe.safe
safe_at x (n ∷ ns) r g zero = g.1.safe
safe_at x (n ∷ ns) r g (suc k) = safe_at (serving_of n) ns r g.2 k

pub last-at : (x : SenderSide) (ns : List RowBox) (r : LastEnd)
    → line_in x ns r (length ns) ≡ line (upper x ns) r.receiving
last-at x [] r = refl
last-at x (n ∷ ns) r = last-at (serving_of n) ns r

module _ (s d : ℕ) where
  pub agreed-at : (x : SenderSide) (ns : List RowBox) (r : LastEnd) → GoodRow x ns r → (k : ℕ)
      → Agreed (line_in x ns r k) s d
  agreed-at x ns r g k = safe-agreed (line_in x ns r k) s d (safe_at x ns r g k)

  -- What a box published is what it handed on.
  pub joined_at : (x : SenderSide) (ns : List RowBox) (r : LastEnd) → GoodRow x ns r → (k : ℕ) → suc k ≤ length ns
      → published_on (line_in x ns r (suc k)) s d ≡ handed_on (line_in x ns r k) s d
  joined_at x [] r g k l = absurd (omega arith)
  joined_at x (n ∷ ns) r g zero l =
      ap (λ (y : SenderSide). of s d y.published) (top-serving (serving_of n) ns r) ∙ ap (of s d) g.0.joint.1
  joined_at x (n ∷ ns) r g (suc k) l = joined_at (serving_of n) ns r g.2 k (omega arith)

  -- ─── The first half ───

  -- The first of the first.
  shorten : (R T : ℕ) (h p q : List Message) → length h ≡ R → h ≡ take R p → p ≡ take T q → h ≡ take R q
  shorten R T h p q n e f =
      let both : h ≡ take R (take T q) = e ∙ ap (take R) f in
      both ∙ take-take R T q (enough R h (take T q) n both)

  pub start-at : (x : SenderSide) (ns : List RowBox) (r : LastEnd) → GoodRow x ns r → (k : ℕ)
      → handed_on (line_in x ns r k) s d ≡ take (reported (line_in x ns r k) s d) (of s d x.published)
  start-at x [] r g k = (agreed-at x [] r g k).first
  start-at x (n ∷ ns) r g zero = (agreed-at x (n ∷ ns) r g 0).first
  start-at x (n ∷ ns) r g (suc k) =
      let here = line_in (serving_of n) ns r k in
      shorten (reported here s d) (reported (line x n.node.receiving) s d) (handed_on here s d)
      (of s d n.node.published)
      (of s d x.published) (agreed-at (serving_of n) ns r g.2 k).exactly (start-at (serving_of n) ns r g.2 k)
      (ap (of s d) g.0.joint.1 ∙ (agreed-at x (n ∷ ns) r g 0).first)

  -- ─── The second half, from each line's ───

  all_of : (R : ℕ) (h p : List Message) → h ≡ take R p → R ≡ length p → h ≡ p
  all_of R h p e f = e ∙ ap (λ (n : ℕ). take n p) f ∙ take_whole p

  pub whole-at : (x : SenderSide) (ns : List RowBox) (r : LastEnd) → GoodRow x ns r → (n : ℕ)
      → ((k : ℕ) → k ≤ n → UpToDate (line_in x ns r k) s d) → handed_on (line_in x ns r n) s d ≡ of s d x.published
  whole-at x [] r g k u = all_of _ _ _ (agreed-at x [] r g k).first (u k (omega arith))
  whole-at x (n ∷ ns) r g zero u = all_of _ _ _ (agreed-at x (n ∷ ns) r g 0).first (u 0 (omega arith))
  whole-at x (n ∷ ns) r g (suc k) u =
      whole-at (serving_of n) ns r g.2 k (λ j l. u (suc j) (omega arith)) ∙ ap (of s d) g.0.joint.1
      ∙ all_of _ _ _ (agreed-at x (n ∷ ns) r g 0).first (u 0 (omega arith))

-- ─── Days never run ahead ───

-- The day below is kept by someone, and no kept day is above the upper end's.
ahead-node : (x : SenderSide) (n : RowBox) → Whole n → GoodLine (line x n.node.receiving)
    → Upto n.node.day.date x.day
ahead-node x n h g = go n.node.day.date refl
  where
    go : (o : TradeDate) → n.node.day.date ≡ o → Upto o x.day
    go None q = tt
    go (Some d) q = let y = h.joint.0.someone d q in rw y.2 at (g.timely.behind y.0)

pub ahead-at : (x : SenderSide) (ns : List RowBox) (r : LastEnd) → GoodRow x ns r → (k : ℕ)
    → Upto (line_in x ns r (suc k)).serving.day (line_in x ns r k).serving.day
ahead-at x [] r g k = upto-same x.day
ahead-at x (n ∷ ns) r g zero =
    subst (λ (y : SenderSide). Upto y.day x.day) (sym (top-serving (serving_of n) ns r))
    (ahead-node x n g.0 g.1)
ahead-at x (n ∷ ns) r g (suc k) = ahead-at (serving_of n) ns r g.2 k

pub behind-top : (x : SenderSide) (ns : List RowBox) (r : LastEnd) → GoodRow x ns r → (k : ℕ)
    → Upto (line_in x ns r k).serving.day x.day
behind-top x [] r g k = upto-same x.day
behind-top x (n ∷ ns) r g zero = upto-same x.day
behind-top x (n ∷ ns) r g (suc k) =
    upto-along (line_in (serving_of n) ns r k).serving.day n.node.day.date x.day
    (behind-top (serving_of n) ns r g.2 k) (ahead-node x n g.0 g.1)

-- A box whose receiving end keeps the upper end's day has opened it: where this is so on each line, the day is one.
abbrev pub There : World → ℕ → Type 0
There w s = (d : ℕ) × (w.serving.day ≡ Some d) × AllThere w s d

upto-both : (d : ℕ) (o : TradeDate) → Upto (Some d) o → Upto o (Some d) → o ≡ Some d
upto-both d None a b = absurd a
upto-both d (Some c) a b = ap Some (same c d a b)
  where
    same : (c d : ℕ) → d ≤ c → c ≤ d → c ≡ d
    same c d a b = omega arith

opened-node : (s d : ℕ) (x : SenderSide) (n : RowBox) → Whole n → GoodLine (line x n.node.receiving)
    → There (line x n.node.receiving) s → x.day ≡ Some d → n.node.day.date ≡ Some d
opened-node s d x n h g y q =
    let up : Upto n.node.day.date (Some d) = rw q at (ahead-node x n h g) in
    let same : Some y.0 ≡ Some d = sym y.1 ∙ q in
    let down : Upto (Some d) n.node.day.date =
    subst (λ (c : TradeDate). Upto c n.node.day.date) (y.2.date ∙ same) (h.joint.0.behind s) in
    upto-both d n.node.day.date down up

pub one-day-at : (s d : ℕ) (x : SenderSide) (ns : List RowBox) (r : LastEnd) → GoodRow x ns r → (m : ℕ)
    → ((k : ℕ) → k ≤ m → There (line_in x ns r k) s) → x.day ≡ Some d → (k : ℕ) → k ≤ suc m
    → (line_in x ns r k).serving.day ≡ Some d
one-day-at s d x [] r g m t q k l = q
one-day-at s d x (n ∷ ns) r g m t q zero l = q
one-day-at s d x (n ∷ ns) r g zero t q (suc zero) l =
    ap (λ (y : SenderSide). y.day) (top-serving (serving_of n) ns r)
    ∙ opened-node s d x n g.0 g.1 (t 0 (omega arith)) q
one-day-at s d x (n ∷ ns) r g zero t q (suc (suc k)) l = absurd (omega arith)
one-day-at s d x (n ∷ ns) r g (suc m) t q (suc k) l =
    one-day-at s d (serving_of n) ns r g.2 m (λ j f. t (suc j) (omega arith))
    (opened-node s d x n g.0 g.1 (t 0 (omega arith)) q) k (omega arith)

-- ─── The steps of line k ───

-- No day below it is above d, and no message of series s and day d was turned away by the box below.
pub record FairAt (x : SenderSide) (ns ms : List RowBox) (r : LastEnd) (k s d : ℕ) : Type 0 where
  pub ahead : Upto (line_in x ns r (suc k)).serving.day (Some d)
  pub takes : of s d (since (refused_in ns k) (refused_in ms k)) ≡ []

moved-under : {w v : World} {C D : ℕ → ℕ → Type 0} → ((s d : ℕ) → D s d → C s d) → LineMoved w v C → LineMoved w v D
moved-under f (goes x) = goes (under f x)
moved-under f (returns q z) = returns q z

pub moved_at : {x y : SenderSide} {ns ms : List RowBox} {r t : LastEnd} → Moved x y ns ms r t → (k : ℕ)
    → LineMoved (line_in x ns r k) (line_in y ms t k) (FairAt x ns ms r k)
moved_at (ends (goes a) h) k = goes (under (λ s d c. tt) a)
moved_at (ends (returns q z) h) k = returns q z
moved_at {ns = n ∷ ns} {r = r} (joins a b) zero =
    goes
    (under
    (λ s d c. record {
      ahead = rw (top-serving (serving_of n) ns r) at c.ahead;
      takes = c.takes;
    }) a.moves)
moved_at (joins a b) (suc k) =
    moved-under (λ s d c. record { ahead = c.ahead; takes = c.takes }) (moved_at b k)

pub moved-refuses : {x y : SenderSide} {ns ms : List RowBox} {r t : LastEnd} → Moved x y ns ms r t → (k : ℕ)
    → Extends (refused_in ns k) (refused_in ms k)
moved-refuses (ends a h) k = extends-same []
moved-refuses (joins a b) zero = a.changed.refuses
moved-refuses (joins a b) (suc k) = moved-refuses b k

moved-long : {x y : SenderSide} {ns ms : List RowBox} {r t : LastEnd} → Moved x y ns ms r t → length ms ≡ length ns
moved-long (ends a h) = refl
moved-long (joins a b) = ap suc (moved-long b)

pub long-run : (w : RowWorld) → Good w → (es : List RowEvent) → length (row_run w es).boxes ≡ length w.boxes
long-run w g [] = refl
long-run w g (e ∷ es) = long-run (row_step w e) (good-step w g e) es ∙ moved-long (row-moves w g e)

pub record LineRun (w v : RowWorld) (k : ℕ) : Type 0 where
  pub rise : Upto (line_at w k).serving.day (line_at v k).serving.day
  pub refuses : Extends (refused_in w.boxes k) (refused_in v.boxes k)
  pub restarts : (line_at w k).receiving.restarts ≤ (line_at v k).receiving.restarts
  -- While no return is taken.
  pub steps : (line_at v k).receiving.restarts ≡ (line_at w k).receiving.restarts
      → (ls : Steps (line_at w k) (line_at v k))
      × ((s d : ℕ) → (line_at v k).serving.day ≡ Some d → TakesAt w v k s d → SparesAll s d ls)

-- None in all: none in the first part, none behind it.
none-parts : (a b c : List (Dated Refusal)) → Extends a b → Extends b c → (s d : ℕ) → of s d (since a c) ≡ []
    → (of s d (since a b) ≡ []) × (of s d (since b c) ≡ [])
none-parts a b c f g s d t =
    append-empty (of s d (since a b)) (of s d (since b c))
    (sym (of-append s d (since a b) (since b c)) ∙ ap (of s d) (sym (since-along a b c f g)) ∙ t)

module _ (w v u : RowWorld) (k : ℕ) (g : Good w) (f : Extends (refused_in w.boxes k) (refused_in v.boxes k))
    (n : LineRun v u k) where
  after : LineMoved (line_at w k) (line_at v k) (FairAt w.exchange w.boxes v.boxes w.last k) → LineRun w u k
  after (goes x) =
      let here = timely-at w.exchange w.boxes w.last g k in
      let a = (grows-line here x.step_of).restarts in
      let b = n.restarts in
      let up : Upto (line_at w k).serving.day (line_at u k).serving.day =
      upto-along (line_at w k).serving.day (line_at v k).serving.day (line_at u k).serving.day
      (day-rises (line_at w k).serving (line_at v k).serving (line-moves x.step_of) here.source.served)
      n.rise in
      record {
        rise = up;
        refuses =
            extends-along (refused_in w.boxes k) (refused_in v.boxes k) (refused_in u.boxes k) f n.refuses;
        restarts = omega (arith, a, b);
        steps = λ q.
            let m = n.steps (omega (arith, a, b, q)) in (
              then x.step_of m.0,
              λ s d day t.
                  let p =
                  none-parts (refused_in w.boxes k) (refused_in v.boxes k) (refused_in u.boxes k) f n.refuses s
                  d
                  t in (
                    x.spares s d
                        (record {
                          ahead =
                              upto-along (line_at w (suc k)).serving.day (line_at w k).serving.day (Some d)
                              (ahead-at w.exchange w.boxes w.last g k) (rw day at up);
                          takes = p.0;
                        }),
                    m.1 s d day p.1,
                  ),
            );
      }
  after (returns q z) =
      let b = n.restarts in
      record {
        rise = subst (λ (y : SenderSide). Upto y.day (line_at u k).serving.day) q n.rise;
        refuses =
            extends-along (refused_in w.boxes k) (refused_in v.boxes k) (refused_in u.boxes k) f n.refuses;
        restarts = omega (arith, b, z);
        steps = λ e. absurd (omega (arith, b, z, e));
      }

pub line-run : (w : RowWorld) → Good w → (es : List RowEvent) → (k : ℕ) → LineRun w (row_run w es) k
line-run w g [] k =
    record {
      rise = upto-same (line_at w k).serving.day;
      refuses = extends-same (refused_in w.boxes k);
      restarts = omega arith;
      steps = λ q. (none, λ s d day t. tt);
    }
line-run w g (e ∷ es) k =
    let v = row_step w e in
    let m = row-moves w g e in
    after w v (row_run v es) k g (moved-refuses m k) (line-run v (good-step w g e) es k) (moved_at m k)

-- ─── The second half on line k ───

no-login : (u v : SenderSide) (s : ℕ) (a : List ℕ) → v ≡ u
    → v.answers ≡ u.answers ++ (in_series s a ∷ []) → ⊥
no-login u v s a q e =
    no-append u.answers (in_series s a) (ap (λ (y : SenderSide). y.answers) (sym q) ∙ e)

-- As `line-complete`, of what the receiving end keeps. No return was taken before the login:
never_back : {from : ℕ} {u v w : World} {C : ℕ → ℕ → Type 0} → Timely from u → from ≡ 0 → LineMoved u v C
    → (fs : Steps v w) (s d : ℕ) (a out : List ℕ) → SparesAll s d fs → CaughtUp u v w s d a out → AllThere w s d
never_back {u = u} {v = v} {w = w} h z (goes x) fs s d a out spares c = go x.step_of fs spares c
  where
    go : {v : World} → LineStep u v → (fs : Steps v w) → SparesAll s d fs → CaughtUp u v w s d a out → AllThere w s d
    go (calls e) fs spares c = caught-up u e fs s d a out spares h (λ t. omega (arith, z)) c
    go rests fs spares c = absurd (no-login u.serving u.serving s a refl c.login)
    go (turns-answer i x q y) fs spares c = absurd (no-login u.serving u.serving s a refl c.login)
    go (turns-receive i j m p q f o b x) fs spares c =
        absurd (no-login u.serving u.serving s a refl c.login)
never_back {u = u} {v = v} h z (returns q y) fs s d a out spares c =
    absurd (no-login u.serving v.serving s a q c.login)

-- Or its packet was asked for since.
asked-since : {from : ℕ} {u v w : World} → Timely from u → (s i : ℕ) (content bytes : List ℕ) → from ≤ i
    → v ≡ step u (login s i content bytes) → (fs : Steps v w) (d : ℕ) (a out : List ℕ) → SparesAll s d fs
    → CaughtUp u v w s d a out → AllThere w s d
asked-since {from = from} {u = u} {w = w} h s i content bytes l q fs d a out spares c =
    subst (λ (v : World). (fs : Steps v w) → SparesAll s d fs → CaughtUp u v w s d a out → AllThere w s d) (sym q)
    (λ fs spares c. caught-up u (login s i content bytes) fs s d a out spares h behind c) fs spares c
  where
    behind : (t : LoginTaken u (login s i content bytes) s a) → from ≤ t.place
    behind t = omega (arith, l, same_place s s i t.place content bytes t.content t.out t.event)

pub row-append : (w : RowWorld) (es fs : List RowEvent) → row_run w (es ++ fs) ≡ row_run (row_run w es) fs
row-append w [] fs = refl
row-append w (e ∷ es) fs = row-append (row_step w e) es fs

module _ (o : RowWorld) (g : Good o) (es fs : List RowEvent) (e : RowEvent) (k s d : ℕ) (a out : List ℕ) where
  abbrev u : RowWorld
  u = row_run o es

  abbrev v : RowWorld
  v = row_step u e

  abbrev w : RowWorld
  w = row_run v fs

  good-u : Good u
  good-u = good-run o g es

  good-v : Good v
  good-v = good-step u good-u e

  -- No opening came since: the day is the login's still.
  pub same-day : CaughtUp (line_at u k) (line_at v k) (line_at w k) s d a out → (line_at w k).serving.day ≡ Some d
  same-day c = steps-day ((line-run v good-v fs k).steps c.no-restart).0 c.no-opening ∙ c.day

  pub line-whole : CaughtUp (line_at u k) (line_at v k) (line_at w k) s d a out → AskedSince u v k s → TakesAt v w k s d
      → UpToDate (line_at w k) s d × AllThere (line_at w k) s d
  line-whole c since t =
      let there = go since in
      (settled (line_at w k) s d there (safe_at w.exchange w.boxes w.last (good-run v good-v fs) k), there)
    where
      before : Timely (asked_at u k) (line_at u k)
      before = timely-at u.exchange u.boxes u.last good-u k

      go : AskedSince u v k s → AllThere (line_at w k) s d
      go (inl z) =
          let r = (line-run v good-v fs k).steps c.no-restart in
          never_back before z (moved_at (row-moves u good-u e) k) r.0 s d a out (r.1 s d (same-day c) t) c
      go (inr x) =
          let r = (line-run v good-v fs k).steps c.no-restart in
          asked-since before s x.0 x.1 x.2 x.3 x.4 r.0 d a out (r.1 s d (same-day c) t) c
