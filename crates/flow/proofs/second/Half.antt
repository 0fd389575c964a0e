-- The second half of demand 3: where a login's answer and then every message sent were delivered, and none is left, the
-- receiving end has all that was published, and so the report is the published count. The chain: the event is a login
-- (`answer-taken`), its start is at most the receiving end's next number on that day (`login-reached`), from there
-- start, start + 1, .. are sent (`login-sends`), the answer and these are taken event by event (`due-run`), and they
-- reach to the last one published (`all-sent`). Assumes nothing.
use Prim.Native.Nat.{ℕ, ◌+◌, ◌≤◌}
use native.Mathlib.Omega.{arith}
use mathlib.Core.Path.{◌≡◌, refl, ap, ◌∙◌}
use mathlib.Core.List.{List, [], ◌∷◌, ◌++◌}
use mathlib.Core.Bool.{true}
use lib.ListN.{length, length-take}
use Rattle.ftd.specs.Login.{login_bytes}
use Rattle.ftd.specs.Types.{TradeDate}
use Rattle.flow.specs.Ends.{is_open, kept_of}
use Rattle.flow.specs.World.{in_series, Event, World, start, step, run}
use Rattle.flow.specs.Agreement.{published_on, handed_on, reported, since, CaughtUp}
use Rattle.flow.proofs.logins.Taken.{LoginTaken, no-append, answer-taken, start_at}
use Rattle.flow.proofs.second.SentFrom.{sent_in}
use Rattle.flow.proofs.second.SentSince.{login-sends, all-sent}
use Rattle.flow.proofs.first.Half.{SafeWorld, start-safe, line-safe, steps-safe, run-safe, safe-agreed}
use Rattle.flow.proofs.lines.Steps.{LineStep, calls, rests, turns-answer, turns-receive, Steps, SparesAll}
use Rattle.flow.proofs.lines.Steps.{run-steps, run-spares}
use Rattle.flow.proofs.packets.Answers.{tests-content}
use Rattle.flow.proofs.logins.Starts.{Timely, timely-step, timely-steps, timely-start, login-day, login-opens}
use Rattle.flow.proofs.logins.Starts.{login-reached}
use Rattle.flow.proofs.second.Sending.{sent-whole, numbered-each}
use Rattle.flow.proofs.second.Due.{Due, waiting, due-run, room_back}
use Rattle.flow.proofs.source.Sources.{start-source}
use Rattle.std.specs.Prelude.{Some}

-- ─── Lists of events in two parts ───

pub run-append : (w : World) (es fs : List Event) → run w (es ++ fs) ≡ run (run w es) fs
run-append w [] fs = refl
run-append w (e ∷ es) fs = run-append (step w e) es fs

-- ─── All that was published is there ───

-- The receiving end keeps the day, and last is at least the published count.
pub record AllThere (w : World) (s d : ℕ) : Type 0 where
  pub opens : is_open w.receiving.end s ≡ true
  pub date : (kept_of w.receiving.end s).date ≡ Some d
  pub last : length (published_on w s d) ≤ (kept_of w.receiving.end s).last

pub caught-up : {from : ℕ} (u : World) (e : Event) {w : World} (fs : Steps (step u e) w) (s d : ℕ) (a out : List ℕ)
    → SparesAll s d fs → Timely from u → ((t : LoginTaken u e s a) → from ≤ t.place)
    → CaughtUp u (step u e) w s d a out → AllThere w s d
caught-up u e {w} fs s d a out spares h asked c =
    let v = step u e in
    let t = answer-taken u e s a c.login in
    let served = h.source.served in
    let answering = tests-content u.serving.end s t.header _ _ t.content t.out t.tests in
    let is : a ≡ login_bytes (Some d) t.content =
    t.answer ∙ ap (λ (x : TradeDate). login_bytes x t.content) (login-day u h e s d a t (asked t) c.day) in
    let opens = login-opens u h e s d a t (asked t) c.day in
    let g = login-sends u served h.source.unfinished e s d a t c.day fs c.no-opening c.last in
    let all = all-sent u served h.source.unfinished e s d a t c.day fs c.no-opening c.last out c.drained in
    let sent = sent_in v.serving w.serving s in
    let n = start_at t + length sent in
    let numbered =
    numbered-each s d (start_at t) sent λ j ps q. sent-whole w.serving s d (start_at t + j) ps (g.each j ps q) in
    let h' = timely-step u h e in
    let room = room_back s d n t.content answering h' opens fs c.room in
    let due : Due s d n t.content answering (since v.receiving.delivered w.receiving.delivered) v =
    waiting (start_at t) sent opens (login-reached u h e s d a t (asked t) c.day) numbered refl (rw is at c.delivered) in
    let ready =
    due-run s d n t.content answering fs spares h' c.day c.no-opening c.no-restart room due in
    let reached = ready.reached in
    record { opens = ready.opens; date = ready.date; last = omega arith }

-- ─── The second half ───

-- With the first half, the serving end's count and what was reported: n is the published count.
pub settled : (w : World) (s d : ℕ) → AllThere w s d → SafeWorld w → reported w s d ≡ length (published_on w s d)
settled w s d x safe =
    let agreed = safe-agreed w s d safe in
    let current = rw x.opens at (safe.right.right s d).today in
    let now : (kept_of w.receiving.end s).last ≡ reported w s d = current x.date in
    let m = x.last in
    let f = agreed.exactly in
    let g : length (handed_on w s d) ≡ _ =
    ap length agreed.first ∙ length-take (reported w s d) (published_on w s d) in
    omega arith

pub safe-run : (log buffer : List ℕ) (es : List Event) → SafeWorld (run (start log buffer) es)
safe-run log buffer es = run-safe (start log buffer) (start-source log buffer) (start-safe log buffer) es

-- Of a line: u before the login, v behind it, w at the end; what is due is spared.
pub line-complete : {o u v w : World} → Timely 0 o → SafeWorld o → Steps o u → LineStep u v → (fs : Steps v w)
    → (s d : ℕ) (a out : List ℕ) → SparesAll s d fs → CaughtUp u v w s d a out
    → reported w s d ≡ length (published_on w s d)
line-complete {u = u} {w = w} h safe es (calls e) fs s d a out spares c =
    let hu = timely-steps h es in
    let safe-u = steps-safe es h.source safe in
    let safe-v = line-safe (calls e) hu.source.begun safe-u in
    let hv = timely-step u hu e in
    settled w s d (caught-up u e fs s d a out spares hu (λ t. omega arith) c) (steps-safe fs hv.source safe-v)
line-complete {u = u} h safe es rests fs s d a out spares c =
    absurd (no-append u.serving.answers (in_series s a) c.login)
line-complete {u = u} h safe es (turns-answer i x q y) fs s d a out spares c =
    absurd (no-append u.serving.answers (in_series s a) c.login)
line-complete {u = u} h safe es (turns-receive i j m p q f o b x) fs s d a out spares c =
    absurd (no-append u.serving.answers (in_series s a) c.login)

pub complete : (log buffer : List ℕ) (es fs : List Event) (e : Event) (s d : ℕ) (a out : List ℕ)
    → let u = run (start log buffer) es in
    let v = step u e in
    let w = run v fs in
    CaughtUp u v w s d a out → reported w s d ≡ length (published_on w s d)
complete log buffer es fs e s d a out c =
    let o = start log buffer in
    let u = run o es in
    line-complete (timely-start log buffer) (start-safe log buffer) (run-steps o es) (calls e)
    (run-steps (step u e) fs) s d a out (run-spares s d (step u e) fs) c
