-- The box's calls towards above: what each leaves meets its promise. Assumes nothing.
use Prim.Native.Nat.{ℕ, zero, suc, ◌≤◌, min}
use native.Mathlib.Omega.{arith}
use mathlib.Core.Path.{◌≡◌, refl, sym, ap, ◌∙◌}
use mathlib.Core.List.{List, [], ◌∷◌, map}
use mathlib.Core.Bool.{Bool, true, false, not, ◌||◌}
use borrow.Author.Tests.{eq-eqb, ne_eqb, ltb-false}
use lib.ListN.{length, length-map, length-take, take, replicate}
use lib.Dec.{eqb, ltb}
use Rattle.ftd.specs.declared.refusal.Refusal.{Refusal}
use Rattle.ftd.specs.declared.refusal.Refusal.TheVariants.{Opening, OtherDay}
use Rattle.flow.specs.declared.sender.Sender.{Sender}
use Rattle.flow.specs.declared.sender.OpenStep.{OpenStep as DayStep}
use Rattle.flow.specs.Types.{Opened}
use Rattle.flow.specs.declared.receiver.KeptSeries.{KeptSeries}
use Rattle.flow.specs.declared.receiver.Receiver.{Receiver}
use Rattle.flow.specs.declared.receiver.OpenStep.{OpenStep as EndStep}
use Rattle.flow.specs.Types.{Requested}
use Rattle.flow.specs.Types.{Confirmed}
use Rattle.flow.specs.declared.receiver.ConfirmStep.{ConfirmStep as EndConfirm}
use Rattle.ftd.specs.Types.{TradeDate}
use Rattle.ftd.specs.declared.packet.Dated.{Dated}
use Rattle.ftd.specs.Packet.{dated_of}
use Rattle.flow.proofs.ends.SenderOpened.{opened_sender}
use Rattle.flow.proofs.common.Bools.{or-neither}
use Rattle.flow.specs.Ends.{◌when◌else◌, Left, left, filled, fresh_sender, fresh_receiver, kept_series, wrong_series, member, differing, up_to, before}
use Rattle.flow.specs.Answers.{confirmed_said}
use Rattle.flow.specs.Promises.{OpensEnd, Connects, Asks, OpensDay, Confirms}
use Rattle.flow.specs.Receiving.{open_end_of, confirm_login_of}
use Rattle.flow.specs.Serving.{open_day_of, wrong_reserves}
use Rattle.relay.specs.declared.relay.Relay.{Relay}
use Rattle.relay.specs.declared.relay.ConfirmStep.{ConfirmStep}
use Rattle.relay.specs.State.{no_numbers}
use Rattle.relay.specs.Box.{fresh_box, open_box_of, connect_box_of, ask_of, no_seat, confirm_past, server_of, reserves_of, taken_way, answer_of, answer_way}
use Rattle.relay.specs.Promises.{IsFresh, OpensBox, ConnectsBox, AsksBox, ConfirmsBox}
use Rattle.relay.specs.Helpers.{AnsweredBy, opening_by, late_answer}
use Rattle.relay.proofs.places.Written.{no-seats}
use Rattle.std.specs.Prelude.{Ok, Err}

-- ─── Fresh, Connect, Ask ───

abbrev relay : Receiver → Relay → Relay
relay e b = record { receiver = e; reserves = b.reserves; day = b.day }

pub fresh-is : (s : Sender) (e : Receiver) → s ≡ fresh_sender → e ≡ fresh_receiver
    → IsFresh (record { receiver = e; reserves = replicate 8 0; day = s.day })
unfolding fresh_box
fresh-is s e p q = rw (p, q, no-seats) refl

pub connects-is : (b : Relay) (e : Receiver) (r : Relay) → Connects b.receiver e → r ≡ relay e b → ConnectsBox b r
unfolding connect_box_of
connects-is b e r p q = rw (q, p) λ seats. refl

pub asks-is : (b : Relay) (s : ℕ) (content out : List ℕ) (r : Requested) (after : List ℕ)
    → Asks b.receiver s content out r after → AsksBox b s content out r after
unfolding ask_of
asks-is b s content out r after h = λ seats. h

-- ─── Opening ───

not-wrong : (w : Bool) (e : Receiver) (x : Left Receiver Opened) → (left e (Err Opening) when w else x).answer ≡ (Ok (tt {0}))
    → w ≡ false
not-wrong true e x q = let z : ◌≡◌ {A = ℕ} 0 1 = cc in absurd (omega arith)
not-wrong false e x q = refl

module _ (b : Relay) (ss rs : List ℕ) where
  pub open-short : (length rs ≡ length ss → ⊥) → OpensBox b ss rs (record { end = b; answer = Err Opening })
  unfolding open_box_of
  open-short n = rw (ne_eqb (length rs) (length ss) n) λ seats. (refl, (refl, refl))

  module _ (e : length rs ≡ length ss) (step : EndStep) (h : OpensEnd b.receiver ss step) where
    pub open-refused : (x : Refusal) → step.answer ≡ Err x → (r : Relay) → r ≡ relay step.end b
        → OpensBox b ss rs (record { end = r; answer = Err x })
    unfolding open_box_of
    open-refused x a r q =
        let z : (open_end_of b.receiver ss).answer ≡ Err x = sym h.1.1 ∙ a in
        rw (q, eq-eqb (length rs) (length ss) e, z, ← h.0) λ seats. (refl, (refl, refl))

    pub open-taken : step.answer ≡ (Ok (tt {0})) → (all : List ℕ) → all ≡ filled 0 rs
        → OpensBox b ss rs
        (record { end = record { receiver = step.end; reserves = all; day = b.day }; answer = (Ok (tt {0})) })
    unfolding open_box_of
    open-taken a all q =
        let z : (open_end_of b.receiver ss).answer ≡ (Ok (tt {0})) = sym h.1.1 ∙ a in
        rw (q, eq-eqb (length rs) (length ss) e, z, ← h.0) λ seats. (refl, (refl, refl))

  pub few-reserves : length rs ≡ length ss → (step : EndStep) → OpensEnd b.receiver ss step → step.answer ≡ (Ok (tt {0}))
      → length rs ≤ 8
  unfolding open_end_of wrong_series
  few-reserves e step h a =
      let z : (open_end_of b.receiver ss).answer ≡ (Ok (tt {0})) = sym h.1.1 ∙ a in
      let i = not (eqb b.receiver.kept.count 0) in
      let j = eqb (length ss) 0 in
      let k = ltb 8 (length ss) in
      let l = member 0 ss in
      let m = not (differing ss) in
      let w = not-wrong (i || (j || k || l || m)) b.receiver _ z in
      let x = (or-neither i (j || k || l || m) w).1 in
      let y = (or-neither (j || k || l) m x).0 in
      let v = (or-neither (j || k) l y).0 in
      let u = ltb-false 8 (length ss) (or-neither j k v).1 in
      omega arith

-- ─── The open series ───

module _ (e : Receiver) (h : length e.kept.series ≡ 8) where
  pub open-count : min e.kept.count 8 ≡ length (kept_series e)
  unfolding kept_series
  open-count =
      sym (length-map (take e.kept.count e.kept.series) (λ (x : KeptSeries). x.series)
      ∙ length-take e.kept.count e.kept.series ∙ ap (min e.kept.count) h)

-- ─── Parts of an array ───

pub fits_in : (X : Type 0) (l : List X) (i n : ℕ) → length (map (λ (v : X). v) l) ≡ n → i ≤ n → i ≤ length l
fits_in X l i n e q =
    let z = length-map l (λ (v : X). v) in
    omega arith

abbrev name_of : KeptSeries → ℕ
name_of x = x.series

take-named : (n : ℕ) (l : List KeptSeries) → take (length (map name_of (take n l))) (map name_of l) ≡ map name_of (take n l)
take-named zero l = refl
take-named (suc n) [] = refl
take-named (suc n) (x ∷ l) = ap (λ (m : List ℕ). x.series ∷ m) (take-named n l)

-- ─── Answer ───

module _ (b : Relay) (ns : List ℕ) (end : Receiver) (last date : ℕ) (log : List ℕ) where
  abbrev opening : Left Sender Opened
  opening = open_day_of (server_of b.day no_seat) date (kept_series b.receiver) (reserves_of b.receiver b.reserves) log

  opened_rows : (w : Bool) → (left (server_of b.day no_seat) (Err Opening) when w else
      left (opened_sender date (kept_series b.receiver) (reserves_of b.receiver b.reserves)) (Ok (tt {0}))).answer ≡ (Ok (tt {0})) →
      (left (server_of b.day no_seat) (Err Opening) when w else
      left (opened_sender date (kept_series b.receiver) (reserves_of b.receiver b.reserves)) (Ok (tt {0}))).end.seat ≡ no_seat
  unfolding fresh_sender
  opened_rows true q = refl
  opened_rows false q = refl

  opened-seat : opening.answer ≡ (Ok (tt {0})) → opening.end.seat ≡ no_seat
  unfolding open_day_of
  opened-seat q =
      let ss = kept_series b.receiver in
      let rs = reserves_of b.receiver b.reserves in
      opened_rows (wrong_series ss || up_to date b.day.date || wrong_reserves ss rs log) q

  module _ (names : List ℕ) (n : ℕ) (server : Sender) (step : DayStep)
      (u : names ≡ map (λ (x : KeptSeries). x.series) b.receiver.kept.series)
      (m : n ≡ length (kept_series b.receiver))
      (v : server ≡ server_of b.day no_seat)
      (h : OpensDay server date (take n names) (take n b.reserves) log step) where
    names-are : take n names ≡ kept_series b.receiver
    unfolding kept_series
    names-are = rw (m, u) (take-named b.receiver.kept.count b.receiver.kept.series)

    opens_as : OpensDay (server_of b.day no_seat) date (kept_series b.receiver) (reserves_of b.receiver b.reserves) log step
    opens_as = rw (v, names-are, m) at h

    pub below-done : step.answer ≡ (Ok (tt {0})) → (after : List ℕ) → after ≡ no_numbers
        → AnsweredBy b ns end last (opening_by opening)
        (record { end = record { receiver = end; reserves = b.reserves; day = step.end.day }; answer = Ok last }) after
    below-done a after z =
        let g = opens_as in
        let q : opening.answer ≡ (Ok (tt {0})) = sym g.1.1 ∙ a in
        rw (z, q, g.0, no-seats, opened-seat q) (refl, refl, refl)

    pub below-refused : (x : Refusal) → step.answer ≡ Err x
        → AnsweredBy b ns end last (opening_by opening) (record { end = b; answer = Err x }) ns
    below-refused x a =
        let g = opens_as in
        let q : opening.answer ≡ Err x = sym g.1.1 ∙ a in
        rw q (refl, refl, refl)

pub late-past : (a : Confirmed) (date today : TradeDate) (past : Bool) → past ≡ confirm_past a → past ≡ true → (r : Bool)
    → r ≡ before date today → r ≡ late_answer a date today
late-past a date today past p q r e = rw (e, ← p, q) refl

module _ (b : Relay) (ns : List ℕ) (s : ℕ) (p log : List ℕ) (step : EndConfirm)
    (h : Confirms b.receiver s p step) (d : Dated) (u : d ≡ dated_of p) (late : Bool)
    (v : late ≡ late_answer step.answer d.date b.day.date) where
  abbrev meant : Left Receiver Confirmed
  meant = confirm_login_of b.receiver s p

  late_of : late_answer meant.answer (dated_of p).date b.day.date ≡ late
  late_of = sym (rw (h.1.1, u) at v)

  pub confirm-late : late ≡ true → ConfirmsBox b ns s p log (record { end = b; answer = Err OtherDay }) ns
  unfolding answer_of answer_way
  confirm-late y = rw (late_of, y) (refl, (refl, refl), refl)

  pub confirm-refused : late ≡ false → (x : Refusal) → step.answer ≡ Err x → (r : Relay) → r ≡ relay step.end b
      → ConfirmsBox b ns s p log (record { end = r; answer = Err x }) ns
  unfolding answer_of answer_way
  confirm-refused y x a r q =
      let z : meant.answer ≡ Err x = sym h.1.1 ∙ a in
      rw (late_of, y, q, ← h.0, z) (refl, (refl, refl), refl)

  pub confirm-taken : late ≡ false → (n : ℕ) → step.answer ≡ Ok n → (r : ConfirmStep) (after : List ℕ)
      → AnsweredBy b ns step.end n (taken_way b.receiver b.reserves b.day log d.date) r after
      → ConfirmsBox b ns s p log r after
  unfolding answer_of answer_way
  confirm-taken y n a r after g =
      let z : meant.answer ≡ Ok n = sym h.1.1 ∙ a in
      let k = rw (h.0, u) at g in
      rw (late_of, y, z, meant_is z) (k.0, (ap confirmed_said k.1, k.1), k.2)
    where
      meant_is : meant.answer ≡ Ok n → meant ≡ left meant.end (Ok n)
      meant_is z = ap (left meant.end) z
