-- What holds of the trade dates and numbers of a receiving end after every list of calls: without a day nothing was
-- received, and who is logged in has a day. Assumes nothing.
use Prim.Native.Nat.{ℕ}
use mathlib.Core.Path.{◌≡◌, refl, ap, ◌∙◌}
use mathlib.Core.List.{List}
use mathlib.Core.Bool.{Bool, true, false}
use lib.ListN.{get_elem?}
use Rattle.ftd.specs.Packet.{dated_of}
use Rattle.ftd.specs.Types.{TradeDate}
use Rattle.ftd.specs.declared.packet.Dated.{Dated as Read}
use Rattle.flow.specs.declared.receiver.KeptSeries.{KeptSeries}
use Rattle.flow.specs.declared.receiver.LiveSeries.{LiveSeries}
use Rattle.flow.specs.declared.receiver.Receiver.{Receiver}
use Rattle.flow.specs.Ends.{logged_in, fresh_receiver, is_open, kept_series, kept_of, live_of, with_series}
use Rattle.flow.specs.Answers.{Message}
use Rattle.flow.specs.Receiving.{last_after, connect_of}
use Rattle.flow.specs.World
use Rattle.flow.specs.World.{InSeries, Event, World, step}
use Rattle.flow.proofs.common.Bools.{clash}
use Rattle.flow.proofs.common.Rows.{by-given}
use Rattle.flow.proofs.common.Days.{Upto, upto-test}
use Rattle.flow.proofs.ends.ReceiverLookups.{Eight, eight-stays}
use Rattle.flow.proofs.ends.ReceiverOpened.{opened_with, fresh-eight, opened-kept, opened-live, opened-eight}
use Rattle.flow.proofs.ends.ReceiverOpened.{connect-kept, connect-live, connect-eight}
use Rattle.ftd.proofs.login.Laws.{login-back}
use Rattle.flow.proofs.source.Answers.{GenuineAnswer, GenuineAnswers}
use Rattle.flow.proofs.steps.Turns.{Turn, stays, opens, connects, confirms, receives, open_turn, request-turn}
use Rattle.flow.proofs.steps.Turns.{confirm-turn, receive-turn, by-series}
use native.Mathlib.Omega.{arith}
use Rattle.flow.proofs.lines.Steps.{LineStep, calls, rests, turns-answer, turns-receive}
use Rattle.flow.proofs.steps.Turns.{refused}
use Rattle.std.specs.Prelude.{Some, None}

pub record Consistent (e : Receiver) : Type 0 where
  pub eight : Eight e
  pub undated : (s : ℕ) → (kept_of e s).date ≡ None → (kept_of e s).last ≡ 0
  pub dated : (s : ℕ) → (live_of e s).login ≡ true → (d : ℕ) × ((kept_of e s).date ≡ Some d)

none-at : {A : Type 0} (o : TradeDate) (d : ℕ) → o ≡ None → o ≡ Some d → A
none-at o d p q = let z : ◌≡◌ {A = ℕ} 0 1 = cc in absurd (omega arith)

pub fresh-consistent : Consistent fresh_receiver
unfolding fresh_receiver kept_of live_of kept_series
fresh-consistent = record { eight = fresh-eight; undated = λ s c. refl; dated = λ s c. clash _ c refl }

-- ─── Every step keeps it ───

module _ (o : TradeDate) (c : Bool) (e : Receiver) (h : Consistent e) where
  abbrev Fits : KeptSeries → LiveSeries → Type 0
  Fits k l = (k.date ≡ None → k.last ≡ 0) × (l.login ≡ true → (d : ℕ) × (k.date ≡ Some d))

  with-consistent : (t : ℕ) (date : TradeDate) (last : ℕ) (live : LiveSeries) → is_open e t ≡ true → (d : ℕ)
      → date ≡ Some d → Consistent (with_series e t date last live)
  with-consistent t date last live r d q =
      record { eight = eight-stays e h.eight t r date last live; undated = λ s. (each s).0; dated = λ s. (each s).1 }
    where
      each : (s : ℕ) → Fits (kept_of (with_series e t date last live) s) (live_of (with_series e t date last live) s)
      each s =
          by-series e h.eight t r date last live (λ s x k l. Fits k l) ((λ c. none-at date d c q), (λ c. (d, q))) s
          (λ n. (h.undated s, h.dated s))

  no-login : (after : Receiver) (s : ℕ) → (live_of after s).login ≡ false → (live_of after s).login ≡ true
      → (d : ℕ) × ((kept_of after s).date ≡ Some d)
  no-login after s p q = clash _ q p

  pub turn-consistent : (after : Receiver) (ms : List Message) (ks : List ℕ) → Turn o c e after ms ks → Consistent after
  turn-consistent after ms ks stays = h
  turn-consistent after ms ks (opens ss z r) =
      record {
        eight = opened-eight ss r;
        undated = λ s c. (opened-kept ss s).1;
        dated = λ s. no-login (opened_with ss) s (ap (λ (l : LiveSeries). l.login) (opened-live ss s));
      }
  turn-consistent after ms ks (connects x) =
      record {
        eight = connect-eight e h.eight;
        undated = λ s. rw (connect-kept e s) (h.undated s);
        dated = λ s. no-login (connect_of e) s (ap (λ (l : LiveSeries). l.login) (connect-live e s));
      }
  turn-consistent after ms ks (confirms t d q b u) = with-consistent t (Some d) (last_after e t (Some d)) logged_in q d refl
  turn-consistent after ms ks (receives {last} {live} t q l g) =
      let x = h.dated t l in with-consistent t (kept_of e t).date last live q x.0 x.1

  -- No day is kept that is above the one that no answer is above.
  pub turn-behind : ((s : ℕ) → Upto (kept_of e s).date o) → (after : Receiver) (ms : List Message) (ks : List ℕ)
      → Turn o c e after ms ks → (s : ℕ) → Upto (kept_of after s).date o
  turn-behind b after ms ks stays s = b s
  turn-behind b after ms ks (opens ss z r) s = rw (opened-kept ss s).0 tt
  turn-behind b after ms ks (connects x) s = rw (connect-kept e s) (b s)
  turn-behind b after ms ks (confirms t d q n u) s =
      by-series e h.eight t q (Some d) (last_after e t (Some d)) logged_in (λ s x k l. Upto k.date o) u s λ n. b s
  turn-behind b after ms ks (receives {last} {live} t q l g) s =
      by-series e h.eight t q (kept_of e t).date last live (λ s x k l. Upto k.date o) (b t) s λ n. b s

-- ─── Over the world ───

abbrev pub is_connect : Event → Bool
is_connect (World.open_sender date ss rs) = false
is_connect (World.publish s tid content) = false
is_connect (World.login s i content out) = false
is_connect (World.send s out) = false
is_connect (World.send_packet s out) = false
is_connect (World.open_receiver ss) = false
is_connect World.connect = true
is_connect (World.request_login s content out) = false
is_connect (World.confirm_login i) = false
is_connect (World.receive i j) = false

-- Some step, whatever it handed on and reported.
pub record Turned (o : TradeDate) (c : Bool) (e after : Receiver) : Type 0 where
  pub hands : List Message
  pub reports : List ℕ
  pub turn : Turn o c e after hands reports

pub turned : {o : TradeDate} {c : Bool} {e after : Receiver} {ms : List Message} {ks : List ℕ} → Turn o c e after ms ks
    → Turned o c e after
turned t = record { hands = _; reports = _; turn = t }

-- The day of an answer on the line is not above the serving end's.
pub answer-upto : (o : TradeDate) (a : InSeries (List ℕ)) → GenuineAnswer o a → Upto (dated_of a.what).date o
answer-upto o a h =
    let f : (dated_of a.what).date ≡ Some h.date =
    ap (λ (p : List ℕ). (dated_of p).date) h.bytes
    ∙ ap (λ (x : Read). x.date) (login-back (Some h.date) h.content h.shape) in
    rw f (upto-test h.date o h.not-later)

-- Of a line's step: a connection or not.
abbrev pub is_link : {w v : World} → LineStep w v → Bool
is_link (calls e) = is_connect e
is_link rests = false
is_link (turns-answer i a q x) = false
is_link (turns-receive i j m p q f o b x) = false

abbrev Quiet : World → World → Type 0
Quiet w v = Turned w.serving.day false w.receiving.end v.receiving.end

pub step-turn : (w : World) → GenuineAnswers w.serving → (e : Event)
    → Turned w.serving.day (is_connect e) w.receiving.end (step w e).receiving.end
step-turn w h (World.open_sender date ss rs) = turned stays
step-turn w h (World.publish s tid content) = turned stays
step-turn w h (World.login s i content out) =
    by-given (Quiet w) w (get_elem? w.receiving.requests i) (turned stays) (λ p e. turned stays)
step-turn w h (World.send s out) = turned stays
step-turn w h (World.send_packet s out) = turned stays
step-turn w h (World.open_receiver ss) = turned (open_turn w.serving.day false w.receiving.end ss)
step-turn w h World.connect = turned (connects refl)
step-turn w h (World.request_login s c out) = turned (request-turn w.serving.day false w.receiving.end s c out)
step-turn w h (World.confirm_login i) =
    by-given (Quiet w) w (get_elem? w.serving.answers i) (turned stays)
    (λ a e. turned
    (confirm-turn w.serving.day false w.receiving.end a.series a.what
    (answer-upto w.serving.day a (h i a e))))
step-turn w h (World.receive i j) =
    by-given (Quiet w) w (get_elem? w.serving.transmissions i) (turned stays)
    (λ m e. by-given (Quiet w) w (get_elem? m.packets j) (turned stays)
    (λ p f. turned (receive-turn w.serving.day false w.receiving.end p w.receiving.buffer)))

pub line-turn : {w v : World} → GenuineAnswers w.serving → (l : LineStep w v)
    → Turned w.serving.day (is_link l) w.receiving.end v.receiving.end
line-turn {w} h (calls e) = step-turn w h e
line-turn h rests = turned stays
line-turn h (turns-answer i a q x) = turned stays
line-turn h (turns-receive i j m p q f o b x) = turned (receives _ o b refused)
