-- What is due to a receiving end: a login's answer and the messages numbered from its start on, still to be delivered
-- in order. Each event keeps it; where nothing more comes, all of them were received. Assumes nothing.
use Prim.Native.Nat.{ℕ, suc, ◌+◌, ◌≤◌}
use native.Mathlib.Omega.{arith}
use mathlib.Core.Path.{◌≡◌, refl, sym, ap, ◌∙◌}
use mathlib.Core.List.{List, [], ◌∷◌, ◌++◌, map, append-nil}
use mathlib.Core.Bool.{Bool, true, false, cond, ◌&&◌}
use mathlib.Core.Logic.{◌⊎◌, inl, inr}
use mathlib.Core.Option.{some}
use borrow.Author.Tests.{eqb-true}
use lib.ListN.{length, get_elem?}
use lib.Dec.{eqb}
use Rattle.ftd.specs.Login.{login_bytes}
use Rattle.flow.specs.declared.receiver.Receiver.{Receiver}
use Rattle.flow.specs.Ends.{is_open, all_parts, day_of, last_of}
use Rattle.flow.specs.Answers.{is_taken, opened_said}
use Rattle.flow.specs.Receiving.{open_end_of, confirm_login_of, receive_of}
use Rattle.flow.specs.World
use Rattle.flow.specs.World.{InSeries, Delivery, answer, message, Standing, going, whole, broken, is_whole}
use Rattle.flow.specs.World.{Transmission, Event, World, only, receives, after_confirm, continues, after_receive}
use Rattle.flow.specs.World.{series_in, step}
use Rattle.flow.specs.Agreement.{Subsequence, done, skip, keep, since}
use Rattle.flow.proofs.common.Lists.{every-at, since-is, since-along}
use Rattle.flow.proofs.common.Extends.{Extends, extends-along}
use Rattle.flow.proofs.packets.Answers.{Answering}
use Rattle.flow.proofs.lines.Steps.{LineStep, calls, rests, turns-answer, turns-receive, Steps, none, then}
use Rattle.flow.proofs.lines.Steps.{Spares, SparesAll, answer_turned, receive_turned}
use Rattle.flow.proofs.lines.Moves.{line-moves, openings-steps}
use Rattle.flow.proofs.steps.Turns.{stays, open_turn, request-turn, confirm-turn, receive-turn, turn-onward}
use Rattle.flow.proofs.steps.Turns.{receives as got, refused, turn-open, turn-parts}
use Rattle.flow.proofs.logins.Consistent.{Turned, turned, answer-upto, is_link, line-turn}
use Rattle.flow.proofs.logins.Timely.{Reached, reached-onward}
use Rattle.flow.proofs.logins.Starts.{Timely, timely-line}
use Rattle.flow.proofs.second.Sending.{Whole, Numbered}
use Rattle.flow.proofs.second.Ready.{Ready, turn-ready, receive-length}
use Rattle.flow.proofs.packets.Genuine.{BegunIn, AllBegun}
use Rattle.flow.proofs.second.Followed.{Follows, step-followed, turned-followed}
use Rattle.flow.proofs.common.Bools.{and_both, clash}
use Rattle.flow.proofs.second.Taking.{logs-in, same_head, next-ready}
use Rattle.flow.proofs.packets.Genuine.{headed}
use Rattle.ftd.specs.Packet.{dated_of}
use Rattle.ftd.specs.declared.packet.Dated.{Dated as Read}
use Rattle.ftd.specs.declared.refusal.Refusal.{Refusal}
use Rattle.ftd.proofs.login.Laws.{login-back}
use Rattle.flow.specs.Ends.{kept_of, live_of}
use Rattle.flow.proofs.common.Rows.{by-given}
use Rattle.flow.proofs.ends.ReceiverLookups.{Eight}
use Rattle.flow.proofs.source.Days.{day-stays, openings-grow}
use Rattle.std.specs.Prelude.{Some}

-- ─── Subsequences ───

module _ {A : Type 0} where
  pub sub-nil : (ys : List A) → Subsequence [] ys
  sub-nil [] = done
  sub-nil (y ∷ ys) = skip (sub-nil ys)

  pub sub-none : {x : A} {xs : List A} → Subsequence (x ∷ xs) [] → ⊥
  sub-none = elim [ ]

  pub sub_cases : {x y : A} {xs ys : List A} → Subsequence (x ∷ xs) (y ∷ ys)
      → ((x ≡ y) × Subsequence xs ys) ⊎ Subsequence (x ∷ xs) ys
  sub_cases (skip s) = inr s
  sub_cases (keep s) = inl (refl, s)

not_answer : (t : ℕ) (p : List ℕ) (xs : List (List (List ℕ))) (ys : List Delivery)
    → Subsequence (map message xs) (answer t p ∷ ys) → Subsequence (map message xs) ys
not_answer t p [] ys s = sub-nil ys
not_answer t p (x ∷ xs) ys s =
    elim (sub_cases s) [ inl e ↦ absurd (let f = e.0 in let z : ◌≡◌ {A = ℕ} 0 1 = cc in omega arith) | inr t ↦ t ]

-- ─── What is due ───

module _ (s d n : ℕ) (content : List ℕ) (ans : Answering content) where
  abbrev a : List ℕ
  a = login_bytes (Some d) content

  -- Of the answer and the messages numbered up to n, what has not come yet is still among ys, which are to come.
  pub data Due (ys : List Delivery) (w : World) : Type 0 where
    waiting : (k : ℕ) (xs : List (List (List ℕ))) → is_open w.receiving.end s ≡ true
        → Reached d k (day_of w.receiving.end s) (last_of w.receiving.end s)
        → Numbered s d k xs → k + length xs ≡ n
        → Subsequence (answer s a ∷ map message xs) ys → Due ys w
    underway : (k : ℕ) (xs : List (List (List ℕ))) → Ready w.receiving.end s d k → Follows s d w → Numbered s d k xs
        → k + length xs ≡ n
        → Subsequence (map message xs) ys → Due ys w

  -- Any call but a connection keeps it.
  due-wait : (ys : List Delivery) (w v : World) → Eight w.receiving.end
      → Turned (Some d) false w.receiving.end v.receiving.end → (k : ℕ) (xs : List (List (List ℕ)))
      → is_open w.receiving.end s ≡ true
      → Reached d k (day_of w.receiving.end s) (last_of w.receiving.end s)
      → Numbered s d k xs → k + length xs ≡ n → Subsequence (answer s a ∷ map message xs) ys → Due ys v
  due-wait ys w v h t k xs o g N q u =
      let r = w.receiving.end in
      let r' = v.receiving.end in
      waiting k xs (turn-open (Some d) false r h r' _ _ t.turn s o)
      (reached-onward d k (day_of r s) (last_of r s) (day_of r' s) (last_of r' s)
      (turn-onward (Some d) false r h r' _ _ t.turn s) g) N q u

  due-turn : (ys : List Delivery) (w v : World) → Eight w.receiving.end
      → Turned (Some d) false w.receiving.end v.receiving.end → (Follows s d w → Follows s d v) → Due ys w → Due ys v
  due-turn ys w v h t f (waiting k xs o g N q u) = due-wait ys w v h t k xs o g N q u
  due-turn ys w v h t f (underway k xs g c N q u) =
      underway k xs (turn-ready w.receiving.end h s d k v.receiving.end _ _ t.turn g) (f c) N q u

  -- ─── From a world to the next ───

  pub record Passes (w v : World) : Type 0 where
    pub more : List Delivery
    pub delivered-is : v.receiving.delivered ≡ w.receiving.delivered ++ more
    pub keeps : (ys : List Delivery) → Due (more ++ ys) w → Due ys v

  module _ {from : ℕ} (w : World) (h : Timely from w) (day : w.serving.day ≡ Some d) where
    abbrev r : Receiver
    r = w.receiving.end

    -- Nothing is delivered.
    still : (v : World) → v.receiving.delivered ≡ w.receiving.delivered → Turned (Some d) false r v.receiving.end
        → (Follows s d w → Follows s d v) → Passes w v
    still v e t f =
        record {
          more = [];
          delivered-is = e
              ∙ sym (append-nil w.receiving.delivered);
          keeps = λ ys. due-turn ys w v h.receiving.eight t f;
        }

    pass-confirm : (x : InSeries (List ℕ)) (i : ℕ) → get_elem? w.serving.answers i ≡ some x
        → Passes w
        (receives w (after_confirm w.receiving x.series x.what (confirm_login_of r x.series x.what)))
    pass-confirm x i e = record { more = answer x.series x.what ∷ []; delivered-is = refl; keeps = λ ys. go ys }
      where
        r' : Receiver
        r' = (confirm_login_of r x.series x.what).end

        v : World
        v = receives w (after_confirm w.receiving x.series x.what (confirm_login_of r x.series x.what))

        t : Turned (Some d) false r r'
        t =
            rw day at (turned
            (confirm-turn w.serving.day false r x.series x.what
            (answer-upto w.serving.day x (h.source.answers i x e))))

        taken : (k : ℕ) → is_open r s ≡ true → Reached d k (day_of r s) (last_of r s)
            → answer s a ≡ answer x.series x.what → Ready r' s d k
        taken k o g q =
            let p : x.series ≡ s = cc in
            let b : x.what ≡ a = cc in
            rw (p, b) (logs-in r h.receiving.eight s d k content ans o (rw day at (h.behind s)) g)

        go : (ys : List Delivery) → Due (answer x.series x.what ∷ ys) w → Due ys v
        go ys (waiting k xs o g N q u) = elim (sub_cases u) [
          | inl f ↦ underway k xs (taken k o g f.0) (record { behind = tt }) N q f.1
          | inr f ↦ due-turn ys w v h.receiving.eight t (λ c. record { behind = tt }) (waiting k xs o g N q f)
        ]
        go ys (underway k xs g c N q u) =
            due-turn ys w v h.receiving.eight t (λ c. record { behind = tt })
            (underway k xs g c N q (not_answer x.series x.what xs ys u))

    pass-receive : (i j : ℕ) (m : Transmission) (p : List ℕ) → AllBegun w.serving
        → all_parts r ≤ length w.receiving.buffer
        → get_elem? w.serving.transmissions i ≡ some m → get_elem? m.packets j ≡ some p
        → Passes w (receives w (after_receive w.receiving m i j p (receive_of r p w.receiving.buffer)))
    pass-receive i j m p begun room e f =
        record { more = only ends (message m.packets); delivered-is = refl; keeps = λ ys. go ys ends refl }
      where
        -- It ends a run over a whole transmission.
        ends : Bool
        ends = continues w.receiving.previous i j && (is_whole m.stands && eqb (suc j) (length m.packets))

        r' : Receiver
        r' = (receive_of r p w.receiving.buffer).end

        v : World
        v = receives w (after_receive w.receiving m i j p (receive_of r p w.receiving.buffer))

        on : Follows s d w → Follows s d v
        on c = by-followed (step-followed s d w (World.receive i j) h.receiving.eight c)
          where
            by-followed : Follows s d (step w (World.receive i j)) → Follows s d v
            by-followed = rw (e, f) (λ c. c)

        t : Turned (Some d) false r r'
        t = turned (receive-turn (Some d) false r p w.receiving.buffer)

        is-whole : (x : Standing) → is_whole x ≡ true → x ≡ whole
        is-whole going q = clash _ q refl
        is-whole whole q = refl
        is-whole broken q = clash _ q refl

        all : ends ≡ true → (ys : List Delivery) → Due (message m.packets ∷ ys) w → Due ys v
        all x ys (waiting k xs o g N q u) = elim (sub_cases u) [
          | inl b ↦ absurd (let c = b.0 in let z : ◌≡◌ {A = ℕ} 0 1 = cc in omega arith)
          | inr b ↦ due-turn ys w v h.receiving.eight t on (waiting k xs o g N q b)
        ]
        all x ys (underway k [] g c N q u) =
            due-turn ys w v h.receiving.eight t on (underway k [] g c N q (sub-nil ys))
        all x ys (underway k (y ∷ xs) g c N q u) = elim (sub_cases u) [
          | inl b ↦ let a = b.0 in let z : y ≡ m.packets = cc in
              let l =
              and_both (continues w.receiving.previous i j)
              (is_whole m.stands && eqb (suc j) (length m.packets)) x in
              let n = and_both (is_whole m.stands) (eqb (suc j) (length m.packets)) l.1 in
              underway (suc k) xs
              (next-ready w h.receiving.eight begun i j m e (is-whole m.stands n.0) l.0 room p f
              (eqb-true (suc j) (length m.packets) n.1) s d k (rw z at N.0) c.behind g) (on c) N.1 (omega arith) b.1
          | inr b ↦ due-turn ys w v h.receiving.eight t on (underway k (y ∷ xs) g c N q b)
        ]

        go : (ys : List Delivery) (b : Bool) → ends ≡ b → Due (only b (message m.packets) ++ ys) w → Due ys v
        go ys true q = all q ys
        go ys false q = due-turn ys w v h.receiving.eight t on

    -- Each event but a connection.
    passes : AllBegun w.serving → (e : Event)
        → all_parts r ≤ length w.receiving.buffer → (step w e).receiving.restarts ≡ w.receiving.restarts
        → Passes w (step w e)
    passes begun (World.open_sender date ss rs) room q =
        still _ refl (turned stays) (step-followed s d w (World.open_sender date ss rs) h.receiving.eight)
    passes begun (World.publish t tid c) room q =
        still _ refl (turned stays) (step-followed s d w (World.publish t tid c) h.receiving.eight)
    passes begun (World.login t i c out) room q =
        on-login (step-followed s d w (World.login t i c out) h.receiving.eight)
      where
        on-login : (Follows s d w → Follows s d (step w (World.login t i c out)))
            → Passes w (step w (World.login t i c out))
        on-login =
            by-given (λ (v : World). (Follows s d w → Follows s d v) → Passes w v) w (get_elem? w.receiving.requests i)
            (still w refl (turned stays)) (λ p e. still _ refl (turned stays))
    passes begun (World.send t out) room q =
        still _ refl (turned stays) (step-followed s d w (World.send t out) h.receiving.eight)
    passes begun (World.send_packet t out) room q =
        still _ refl (turned stays) (step-followed s d w (World.send_packet t out) h.receiving.eight)
    passes begun (World.open_receiver ss) room q =
        still _ refl (turned (open_turn (Some d) false r ss)) (λ c. record { behind = tt })
    passes begun World.connect room q = absurd (omega arith)
    passes begun (World.request_login t c out) room q =
        still _ refl (turned (request-turn (Some d) false r t c out)) (λ c. record { behind = tt })
    passes begun (World.confirm_login i) room q =
        by-given (Passes w) w (get_elem? w.serving.answers i) (still w refl (turned stays) (λ c. c))
        (λ x e. pass-confirm x i e)
    passes begun (World.receive i j) room q =
        by-given (Passes w) w (get_elem? w.serving.transmissions i) (still w refl (turned stays) (λ c. c))
        (λ m e. by-given (Passes w) w (get_elem? m.packets j) (still w refl (turned stays) (λ c. c))
        (λ p f. pass-receive i j m p begun room e f))

    -- ─── What is turned away, if what is due is spared ───

    answer-dated : (x : InSeries (List ℕ)) → answer s a ≡ answer x.series x.what
        → (x.series ≡ s) × ((dated_of x.what).date ≡ Some d)
    answer-dated x q =
        let p : x.series ≡ s = cc in
        let b : x.what ≡ a = cc in
        (p, rw b (ap (λ (y : Read). y.date) (login-back (Some d) content ans.shape)))

    pass-answer-turned : (x : InSeries (List ℕ)) (y : Refusal)
        → (x.series ≡ s → (dated_of x.what).date ≡ Some d → ⊥) → Passes w (answer_turned w x y)
    pass-answer-turned x y spares =
        record { more = answer x.series x.what ∷ []; delivered-is = refl; keeps = λ ys. go ys }
      where
        v : World
        v = answer_turned w x y

        go : (ys : List Delivery) → Due (answer x.series x.what ∷ ys) w → Due ys v
        go ys (waiting k xs o g N q u) = elim (sub_cases u) [
          | inl f ↦ let z = answer-dated x f.0 in absurd (spares z.0 z.1)
          | inr f ↦ waiting k xs o g N q f
        ]
        go ys (underway k xs g c N q u) = underway k xs g (record { behind = tt }) N q (not_answer x.series x.what xs ys u)

    pass-receive-turned : (i j : ℕ) (m : Transmission) (p : List ℕ) → AllBegun w.serving
        → get_elem? w.serving.transmissions i ≡ some m → get_elem? m.packets j ≡ some p
        → is_open r (series_in (dated_of p).packet) ≡ true → (live_of r (series_in (dated_of p).packet)).login ≡ true
        → (y : Refusal) → (m.series ≡ s → (kept_of r s).date ≡ Some d → ⊥) → Passes w (receive_turned w m i j p y)
    pass-receive-turned i j m p begun e f o b y spares =
        record {
          more = only ends (message m.packets);
          delivered-is = refl;
          keeps = λ ys. go ys ends refl;
        }
      where
        ends : Bool
        ends = continues w.receiving.previous i j && (is_whole m.stands && eqb (suc j) (length m.packets))

        v : World
        v = receive_turned w m i j p y

        t : Turned (Some d) false r v.receiving.end
        t = turned (got _ o b refused)

        -- While the day is kept the packet is of another series.
        on : (k : ℕ) → Ready r s d k → Follows s d v
        on k g = turned-followed s d w i j m p y e (λ n t k c. absurd (spares n g.date))

        turn : (ys : List Delivery) → Due ys w → Due ys v
        turn ys (waiting k xs z g N q u) = due-wait ys w v h.receiving.eight t k xs z g N q u
        turn ys (underway k xs g c N q u) =
            due-turn ys w v h.receiving.eight t (λ c. on k g) (underway k xs g c N q u)

        other : (k : ℕ) (x : List (List ℕ)) → m.stands ≡ whole → Whole s d k x → x ≡ m.packets → m.series ≡ s
        other k x all g z =
            let n = every-at (BegunIn w.serving.published) w.serving.transmissions i m begun e in
            let at : get_elem? x j ≡ some p = rw z f in
            sym (same_head (headed s g.tid k d) (headed m.series n.what.tid (suc n.place) n.day)
            g.content n.what.content j p g.shape n.good
            (rw g.is at at) (rw (n.all all) at f)).0

        is-whole : (x : Standing) → is_whole x ≡ true → x ≡ whole
        is-whole going q = clash _ q refl
        is-whole whole q = refl
        is-whole broken q = clash _ q refl

        all : ends ≡ true → (ys : List Delivery) → Due (message m.packets ∷ ys) w → Due ys v
        all x ys (waiting k xs z g N q u) = elim (sub_cases u) [
          | inl c ↦ absurd (let c = c.0 in let z : ◌≡◌ {A = ℕ} 0 1 = cc in omega arith)
          | inr c ↦ turn ys (waiting k xs z g N q c)
        ]
        all x ys (underway k [] g c N q u) = turn ys (underway k [] g c N q (sub-nil ys))
        all x ys (underway k (l ∷ xs) g c N q u) = elim (sub_cases u) [
          | inl z ↦ let y = z.0 in let q : l ≡ m.packets = cc in
              let n =
              and_both (continues w.receiving.previous i j)
              (is_whole m.stands && eqb (suc j) (length m.packets)) x in
              let o = and_both (is_whole m.stands) (eqb (suc j) (length m.packets)) n.1 in
              absurd (spares (other k l (is-whole m.stands o.0) N.0 q) g.date)
          | inr z ↦ turn ys (underway k (l ∷ xs) g c N q z)
        ]

        go : (ys : List Delivery) (b : Bool) → ends ≡ b → Due (only b (message m.packets) ++ ys) w → Due ys v
        go ys true q = all q ys
        go ys false q = turn ys

    -- Each step but a connection.
    pub line-passes : {v : World} → AllBegun w.serving → (l : LineStep w v) → Spares s d l
        → all_parts r ≤ length w.receiving.buffer → v.receiving.restarts ≡ w.receiving.restarts → Passes w v
    line-passes begun (calls e) n room q = passes begun e room q
    line-passes begun rests n room q = still w refl (turned stays) (λ c. c)
    line-passes begun (turns-answer i x e y) n room q = pass-answer-turned x y n
    line-passes begun (turns-receive i j m p e f o b y) n room q = pass-receive-turned i j m p begun e f o b y n

  -- The series is open.
  due-open : (ys : List Delivery) (w : World) → Due ys w → is_open w.receiving.end s ≡ true
  due-open ys w (waiting k xs o g N q u) = o
  due-open ys w (underway k xs g c N q u) = g.opens

  -- Nothing more comes: all is there.
  pub due-none : (w : World) → Due [] w → Ready w.receiving.end s d n
  due-none w (waiting k xs o g N q u) = absurd (sub-none u)
  due-none w (underway k [] g c N q u) =
      let j = g.reached in record { opens = g.opens; login = g.login; date = g.date; reached = omega arith }
  due-none w (underway k (x ∷ xs) g c N q u) = absurd (sub-none u)

-- ─── What is delivered only grows; so do restarts; the buffer stays as large ───

pub record Grows (w v : World) : Type 0 where
  pub delivered : Extends w.receiving.delivered v.receiving.delivered
  pub restarts : w.receiving.restarts ≤ v.receiving.restarts
  pub size : length v.receiving.buffer ≡ length w.receiving.buffer

grows_same : (w v : World) → v.receiving.delivered ≡ w.receiving.delivered
    → w.receiving.restarts ≤ v.receiving.restarts
    → v.receiving.buffer ≡ w.receiving.buffer → Grows w v
grows_same w v a b c =
    record { delivered = ([], a ∙ sym (append-nil w.receiving.delivered)); restarts = b; size = ap length c }

taken-grows : (b : Bool) (n : ℕ) → n ≤ cond b (suc n) n
taken-grows true n = omega arith
taken-grows false n = omega arith

pub grows-step : (w : World) → Eight w.receiving.end → (e : Event) → Grows w (step w e)
grows-step w h (World.open_sender date ss rs) = grows_same w _ refl (omega arith) refl
grows-step w h (World.publish t tid c) = grows_same w _ refl (omega arith) refl
grows-step w h (World.login t i c out) =
    by-given (Grows w) w (get_elem? w.receiving.requests i) (grows_same w w refl (omega arith) refl)
    (λ p e. grows_same w _ refl (omega arith) refl)
grows-step w h (World.send t out) = grows_same w _ refl (omega arith) refl
grows-step w h (World.send_packet t out) = grows_same w _ refl (omega arith) refl
grows-step w h (World.open_receiver ss) =
    grows_same w _ refl
    (taken-grows (is_taken (opened_said (open_end_of w.receiving.end ss).answer)) w.receiving.restarts) refl
grows-step w h World.connect = grows_same w _ refl (omega arith) refl
grows-step w h (World.request_login t c out) = grows_same w _ refl (omega arith) refl
grows-step w h (World.confirm_login i) =
    by-given (Grows w) w (get_elem? w.serving.answers i) (grows_same w w refl (omega arith) refl)
    (λ x e. record { delivered = (_, refl); restarts = omega arith; size = refl })
grows-step w h (World.receive i j) =
    by-given (Grows w) w (get_elem? w.serving.transmissions i) (grows_same w w refl (omega arith) refl)
    (λ m e. by-given (Grows w) w (get_elem? m.packets j) (grows_same w w refl (omega arith) refl)
    (λ p f. record {
      delivered = (_, refl);
      restarts = omega arith;
      size = receive-length w.receiving.end h w.receiving.buffer p;
    }))

pub grows-line : {from : ℕ} {w v : World} → Timely from w → LineStep w v → Grows w v
grows-line {w = w} h (calls e) = grows-step w h.receiving.eight e
grows-line {w = w} h rests = grows_same w w refl (omega arith) refl
grows-line h (turns-answer i a q x) = record { delivered = (_, refl); restarts = omega arith; size = refl }
grows-line h (turns-receive i j m p q f o b x) =
    record { delivered = (_, refl); restarts = omega arith; size = refl }

grows-steps : {from : ℕ} {w v : World} → Timely from w → Steps w v → Grows w v
grows-steps {w = w} h none = grows_same w w refl (omega arith) refl
grows-steps {w = w} {v = v} h (then {v = u} l ls) =
    let a = grows-line h l in
    let b = grows-steps (timely-line h l) ls in
    let x = a.restarts in
    let y = b.restarts in
    record {
      delivered =
          extends-along w.receiving.delivered u.receiving.delivered v.receiving.delivered a.delivered
          b.delivered;
      restarts = omega arith;
      size = b.size ∙ a.size;
    }

parts-line : {from : ℕ} {w v : World} → Timely from w → (s : ℕ) → is_open w.receiving.end s ≡ true → LineStep w v
    → all_parts v.receiving.end ≡ all_parts w.receiving.end
parts-line {w = w} {v = v} h s o l =
    turn-parts w.serving.day (is_link l) w.receiving.end h.receiving.eight v.receiving.end _ _
    (line-turn h.source.answers l).turn s o

open-line : {from : ℕ} {w v : World} → Timely from w → (s : ℕ) → is_open w.receiving.end s ≡ true → LineStep w v
    → is_open v.receiving.end s ≡ true
open-line {w = w} {v = v} h s o l =
    turn-open w.serving.day (is_link l) w.receiving.end h.receiving.eight v.receiving.end _ _
    (line-turn h.source.answers l).turn s o

parts-steps : {from : ℕ} {w v : World} → Timely from w → (s : ℕ) → is_open w.receiving.end s ≡ true → Steps w v
    → all_parts v.receiving.end ≡ all_parts w.receiving.end
parts-steps h s o none = refl
parts-steps h s o (then l ls) = parts-steps (timely-line h l) s (open-line h s o l) ls ∙ parts-line h s o l

-- ─── Over a list of steps ───

module _ (s d n : ℕ) (content : List ℕ) (ans : Answering content) where
  pub due-run : {from : ℕ} {w v : World} (ls : Steps w v) → SparesAll s d ls → Timely from w → w.serving.day ≡ Some d
      → v.serving.openings ≡ w.serving.openings
      → v.receiving.restarts ≡ w.receiving.restarts
      → all_parts w.receiving.end ≤ length w.receiving.buffer
      → Due s d n content ans (since w.receiving.delivered v.receiving.delivered) w
      → Ready v.receiving.end s d n
  due-run {w = w} none spares h day c q room u =
      due-none s d n content ans w
      (rw (since-is w.receiving.delivered w.receiving.delivered []
      (sym (append-nil w.receiving.delivered))) at u)
  due-run {w = w} {v = v} (then {v = x} l ls) spares h day c q room u =
      let m = line-moves l in
      let c1 = openings-grow w.serving x.serving m in
      let c2 = openings-steps ls in
      let ca : x.serving.openings ≡ w.serving.openings = omega arith in
      let cb : v.serving.openings ≡ x.serving.openings = omega arith in
      let g = grows-line h l in
      let h' = timely-line h l in
      let f = grows-steps h' ls in
      let q1 = g.restarts in
      let q2 = f.restarts in
      let qa : x.receiving.restarts ≡ w.receiving.restarts = omega arith in
      let qb : v.receiving.restarts ≡ x.receiving.restarts = omega arith in
      let begun = h.source.begun in
      let t = line-passes s d n content ans w h day begun l spares.0 room qa in
      let o = due-open s d n content ans _ w u in
      let sz = g.size in
      let pt = parts-line h s o l in
      let parted =
      since-along w.receiving.delivered x.receiving.delivered v.receiving.delivered
      g.delivered f.delivered in
      let first = since-is w.receiving.delivered x.receiving.delivered t.more t.delivered-is in
      let u' = rw (parted, first) at u in
      due-run ls spares.1 h'
      (day-stays w.serving x.serving m ca ∙ day) cb qb (omega arith)
      (t.keeps (since x.receiving.delivered v.receiving.delivered) u')

  -- The room at the end is the room before.
  pub room_back : {from : ℕ} {w v : World} → Timely from w → is_open w.receiving.end s ≡ true → Steps w v
      → all_parts v.receiving.end ≤ length v.receiving.buffer
      → all_parts w.receiving.end ≤ length w.receiving.buffer
  room_back h o ls z =
      let a = parts-steps h s o ls in
      let b = (grows-steps h ls).size in
      omega arith
