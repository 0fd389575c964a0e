-- The start of a login over the world: every login packet on the line is timed, after every list of events; so where a
-- login is taken on day d with start k, at any later time at which the receiving end keeps d, k is at most last + 1.
-- Assumes nothing.
use Prim.Native.Nat.{ℕ, ◌+◌, ◌≤◌}
use native.Mathlib.Omega.{arith}
use mathlib.Core.Path.{◌≡◌, refl, sym, ap, ◌∙◌}
use mathlib.Core.List.{List, [], ◌∷◌}
use mathlib.Core.Bool.{Bool, true, false}
use lib.ListN.{length, drop, get_elem?, length-append}
use lib.Seq.{drop-append-le}
use Rattle.flow.specs.declared.receiver.Receiver.{Receiver}
use Rattle.flow.specs.Ends.{is_open, kept_of, kept_series, fresh_receiver, day_of, last_of}
use Rattle.flow.specs.Answers.{written, requested_said}
use Rattle.flow.specs.Receiving.{request_login_of}
use Rattle.flow.specs.World
use Rattle.flow.specs.World.{Event, World, start, step, run}
use Rattle.flow.proofs.common.Lists.{Every, every_append, every_map, every-from}
use Rattle.flow.proofs.packets.Requests.{request-end}
use Rattle.flow.proofs.logins.Timely.{Reached, reached-onward, reached-here, Request}
use Rattle.flow.proofs.source.Moves.{step-moves}
use Rattle.flow.proofs.logins.Taken.{LoginTaken, start_at}
use Rattle.flow.proofs.steps.Turns.{turn-onward}
use Rattle.flow.proofs.logins.Consistent.{is_connect, Turned, step-turn, Consistent, turn-behind, turn-consistent}
use Rattle.flow.proofs.logins.Consistent.{fresh-consistent, line-turn}
use Rattle.flow.proofs.lines.Steps.{LineStep, calls, rests, turns-answer, turns-receive, Steps, none, then}
use Rattle.flow.proofs.common.Rows.{by-given}
use Rattle.flow.proofs.common.Days.{Upto, upto-along}
use Rattle.flow.proofs.source.Days.{day-rises}
use Rattle.flow.proofs.source.Sources.{Source, move-source, run-source}
use Rattle.flow.proofs.logins.Start.{asked-request, request-onward, taken-opens, taken-reached}
use Rattle.std.specs.Prelude.{Some}

-- ─── The invariant ───

-- Of the login packets on the line from place `from` on: all of them, while there is no return (02, No. 13).
pub record Timely (from : ℕ) (w : World) : Type 0 where
  pub source : Source w.serving
  pub receiving : Consistent w.receiving.end
  -- The receiving end keeps no day above the serving end's.
  pub behind : (s : ℕ) → Upto (kept_of w.receiving.end s).date w.serving.day
  pub inside : from ≤ length w.receiving.requests
  pub requests-ok : Every (Request w.receiving.end) (drop from w.receiving.requests)

-- ─── Kept by each event ───

-- Of the world as a whole, so that it is known which world is meant.
record Asked (from : ℕ) (v : World) : Type 0 where
  within : from ≤ length v.receiving.requests
  all : Every (Request v.receiving.end) (drop from v.receiving.requests)

module _ {from : ℕ} (w : World) (h : Timely from w) where
  abbrev Then : Bool → World → Type 0
  Then c v = Turned w.serving.day c w.receiving.end v.receiving.end → Asked from v

  -- A call that asks for no login.
  on : (c : Bool) (v : World) → v.receiving.requests ≡ w.receiving.requests → Then c v
  on c v e t =
      record {
        within = rw e h.inside;
        all =
            rw e
            (every_map _ _
            (request-onward w.serving.day c w.receiving.end h.receiving.eight v.receiving.end _ _
            t.turn) (drop from w.receiving.requests) h.requests-ok);
      }

  requests-step : (e : Event) → Then (is_connect e) (step w e)
  requests-step (World.open_sender date ss rs) = on false _ refl
  requests-step (World.publish s tid content) = on false _ refl
  requests-step (World.login s i content out) =
      by-given (Then false) w (get_elem? w.receiving.requests i) (on false w refl) (λ p e. on false _ refl)
  requests-step (World.send s out) = on false _ refl
  requests-step (World.send_packet s out) = on false _ refl
  requests-step (World.open_receiver ss) = on false _ refl
  requests-step World.connect = on true _ refl
  requests-step (World.request_login s c out) = λ t.
      let r = w.receiving.end in
      let l = w.receiving.requests in
      record {
        within = omega (
          arith,
          h.inside,
          length-append l (written (request_login_of r s c out).bytes
              (requested_said (request_login_of r s c out).answer)),
        );
        all =
            rw (
              request-end r s c out,
              drop-append-le from l (written (request_login_of r s c out).bytes
                  (requested_said (request_login_of r s c out).answer)) h.inside,
            )
            (every_append (Request r) (drop from l) _ h.requests-ok
            (asked-request r s c out (h.receiving.undated s)));
      }
  requests-step (World.confirm_login i) =
      by-given (Then false) w (get_elem? w.serving.answers i) (on false w refl) (λ a e. on false _ refl)
  requests-step (World.receive i j) =
      by-given (Then false) w (get_elem? w.serving.transmissions i) (on false w refl)
      (λ m e. by-given (Then false) w (get_elem? m.packets j) (on false w refl) (λ p f. on false _ refl))

  -- A call that the serving end does not see and that asks for no login.
  timely-turned : (c : Bool) (v : World) → v.serving ≡ w.serving → v.receiving.requests ≡ w.receiving.requests
      → Turned w.serving.day c w.receiving.end v.receiving.end → Timely from v
  timely-turned c v e q t =
      let o = w.serving.day in
      let r = w.receiving.end in
      record {
        source = rw e h.source;
        receiving = turn-consistent o c r h.receiving v.receiving.end _ _ t.turn;
        behind = rw e (turn-behind o c r h.receiving h.behind v.receiving.end _ _ t.turn);
        inside = (on c v q t).within;
        requests-ok = (on c v q t).all;
      }

  pub timely-step : (e : Event) → Timely from (step w e)
  timely-step e =
      let o = w.serving.day in
      let r = w.receiving.end in
      let t = step-turn w h.source.answers e in
      let m = step-moves w e in
      record {
        source = move-source w.serving (step w e).serving m h.source;
        receiving = turn-consistent o (is_connect e) r h.receiving (step w e).receiving.end _ _ t.turn;
        behind =
            λ s. upto-along (kept_of (step w e).receiving.end s).date o (step w e).serving.day
            (turn-behind o (is_connect e) r h.receiving h.behind (step w e).receiving.end _ _ t.turn s)
            (day-rises w.serving (step w e).serving m h.source.served);
        inside = (requests-step e t).within;
        requests-ok = (requests-step e t).all;
      }

pub timely-line : {from : ℕ} {w v : World} → Timely from w → LineStep w v → Timely from v
timely-line {w = w} h (calls e) = timely-step w h e
timely-line h rests = h
timely-line {w = w} h (turns-answer i a q x) =
    timely-turned w h false _ refl refl (line-turn {w = w} h.source.answers (turns-answer i a q x))
timely-line {w = w} h (turns-receive i j m p q f o b x) =
    timely-turned w h false _ refl refl (line-turn {w = w} h.source.answers (turns-receive i j m p q f o b x))

pub timely-steps : {from : ℕ} {w v : World} → Timely from w → Steps w v → Timely from v
timely-steps h none = h
timely-steps h (then l ls) = timely-steps (timely-line h l) ls

pub timely-run : {from : ℕ} (w : World) → Timely from w → (es : List Event) → Timely from (run w es)
timely-run w h [] = h
timely-run w h (e ∷ es) = timely-run (step w e) (timely-step w h e) es

pub timely-start : (log buffer : List ℕ) → Timely 0 (start log buffer)
unfolding start fresh_receiver kept_of kept_series
timely-start log buffer =
    record {
      source = run-source log buffer [];
      receiving = fresh-consistent;
      behind = λ s. tt;
      inside = omega arith;
      requests-ok = tt;
    }

-- ─── A login that is taken ───

-- On day d; it starts no later than the receiving end wants, in a series that is open there.
module _ {from : ℕ} (u : World) (h : Timely from u) (e : Event) (s d : ℕ) (a : List ℕ) (t : LoginTaken u e s a)
    (asked : from ≤ t.place) (day : (step u e).serving.day ≡ Some d) where
  pub login-day : u.serving.end.day.date ≡ Some d
  login-day = h.source.served.same-day ∙ sym (ap (λ (w : World). w.serving.day) t.effect) ∙ day

  abbrev q : Request u.receiving.end t.packet
  q =
      every-from (Request u.receiving.end) from u.receiving.requests t.place t.packet
      h.requests-ok asked t.on_line

  same_end : (step u e).receiving.end ≡ u.receiving.end
  same_end = ap (λ (w : World). w.receiving.end) t.effect

  pub login-opens : is_open (step u e).receiving.end s ≡ true
  login-opens =
      ap (λ (r : Receiver). is_open r s) same_end
      ∙ taken-opens u.serving.end d login-day u.receiving.end t.packet q s t.content t.out t.header
      t.extension t.body t.read t.tests

  pub login-reached : Reached d (start_at t) (day_of (step u e).receiving.end s) (last_of (step u e).receiving.end s)
  login-reached =
      rw same_end
      (taken-reached u.serving.end d login-day u.receiving.end t.packet q s t.content t.out t.header
      t.extension t.body t.read t.tests)

-- ─── Over lists of events ───

-- What is reached stays reached.
pub reached-run : {from : ℕ} (s d k : ℕ) (w : World) → Timely from w → (es : List Event)
    → Reached d k (day_of w.receiving.end s) (last_of w.receiving.end s)
    → Reached d k (day_of (run w es).receiving.end s) (last_of (run w es).receiving.end s)
reached-run s d k w h [] r = r
reached-run s d k w h (e ∷ es) r =
    let a = w.receiving.end in
    let b = (step w e).receiving.end in
    reached-run s d k (step w e) (timely-step w h e) es
    (reached-onward d k (day_of a s) (last_of a s) (day_of b s) (last_of b s)
    (turn-onward w.serving.day (is_connect e) a h.receiving.eight b _ _
    (step-turn w h.source.answers e).turn s) r)

-- At any later time at which the receiving end keeps the login's day, the start is at most last + 1.
pub start-within : {from : ℕ} (u : World) → Timely from u
    → (e : Event) (s d : ℕ) (a : List ℕ) (t : LoginTaken u e s a)
    → from ≤ t.place → (step u e).serving.day ≡ Some d → (fs : List Event)
    → let w = run (step u e) fs in
    day_of w.receiving.end s ≡ Some d → start_at t ≤ last_of w.receiving.end s + 1
start-within u h e s d a t asked day fs q =
    let r = reached-run s d (start_at t) (step u e) (timely-step u h e) fs (login-reached u h e s d a t asked day) in
    let n = reached-here d (start_at t) _ (last_of (run (step u e) fs).receiving.end s) q r in
    omega arith
