-- An event that puts an answer on the line is a login of its series that was taken: what it asked, what it was tested
-- for, and all that it changes. Assumes nothing.
use Prim.Native.Nat.{ℕ, ◌+◌, ◌≤◌}
use native.Mathlib.Omega.{arith}
use mathlib.Core.Path.{◌≡◌, refl, ap, ◌∙◌, sym, subst}
use mathlib.Core.List.{List, [], ◌∷◌, ◌++◌, append-nil}
use mathlib.Core.Bool.{true}
use mathlib.Core.Option.{some}
use lib.ListN.{length, drop, get_elem?, length-append}
use lib.Seq.{take-append_seam}
use Rattle.ftd.specs.Login.{login_bytes}
use Rattle.ftd.specs.Bytes.{part}
use Rattle.ftd.specs.Packet.{dated_of}
use Rattle.ftd.specs.Resume.{resume_of}
use Rattle.ftd.specs.declared.packet.Header.{Header}
use Rattle.ftd.specs.declared.packet.Span.{Span}
use Rattle.ftd.specs.declared.packet.Packet.TheVariants.{Message as Accepted}
use Rattle.flow.specs.declared.sender.Sender.{Sender}
use Rattle.flow.specs.Types.{LoggedIn}
use Rattle.flow.specs.Ends.{Wrote, published_of, place_of}
use Rattle.flow.specs.Serving.{start_of, login_of}
use Rattle.flow.specs.World.{InSeries, in_series, Event, open_sender, publish, login, send, send_packet, open_receiver, connect}
use Rattle.flow.specs.World.{request_login, confirm_login, receive, after_login, World, serves, step}
use Rattle.flow.proofs.ends.SenderLookups.{Eight, place-next}
use Rattle.flow.proofs.calls.Serving.{LoginTests, LoginDone, login-refused, login-taken, login-cases}
use Rattle.flow.proofs.source.Moves.{login_side}
use Rattle.flow.proofs.common.Rows.{by-given}

-- A login that was taken, of series s with answer a: its packet on the line, read as header, date and content; the
-- tests that it passed, with the start that it got; and the world behind it, which differs in nothing else.
pub record LoginTaken (w : World) (e : Event) (s : ℕ) (a : List ℕ) : Type 0 where
  pub place : ℕ
  pub packet : List ℕ
  pub content : List ℕ
  pub out : List ℕ
  pub event : e ≡ login s place content out
  pub on_line : get_elem? w.receiving.requests place ≡ some packet
  pub header : Header
  pub extension : Span
  pub body : Span
  pub read : (dated_of packet).packet ≡ Accepted header extension body
  pub tests : LoginTests w.serving.end s header (dated_of packet).date (part packet body.start body.len)
      content out
  pub answer : a ≡ login_bytes w.serving.end.day.date content
  pub effect :
      step w e ≡ serves w
      (login_side w.serving s
      (start_of w.serving.end (dated_of packet).date (resume_of (part packet body.start body.len))) content)

-- ─── Appended lists ───

pub no-append : {A : Type 0} (l : List A) (x : A) → l ≡ l ++ (x ∷ []) → ⊥
no-append l x q = let k = ap length q ∙ length-append l (x ∷ []) in omega arith

same-last : {A : Type 0} (l : List A) (x y : A) → l ++ (x ∷ []) ≡ l ++ (y ∷ []) → x ≡ y
same-last [] x y q = cc
same-last (z ∷ l) x y q = same-last l x y (tails (l ++ (x ∷ [])) (l ++ (y ∷ [])) q)
  where
    tails : (a b : List _) → z ∷ a ≡ z ∷ b → a ≡ b
    tails a b q = cc

-- ─── The event ───

module _ (w : World) where
  abbrev Answered : Event → ℕ → List ℕ → World → Type 0
  Answered e s a u = u.serving.answers ≡ w.serving.answers ++ (in_series s a ∷ []) → LoginTaken w e s a

  taken-effect : (t i : ℕ) (p content out : List ℕ) → get_elem? w.receiving.requests i ≡ some p →
      step w (login t i content out) ≡ serves w (after_login w.serving t (login_of w.serving.end t p content out))
  taken-effect t i p content out q = rw q

  login-answers : (t i : ℕ) (p content out : List ℕ) (s : ℕ) (a : List ℕ)
      → get_elem? w.receiving.requests i ≡ some p →
      (r : Wrote Sender LoggedIn) → LoginDone w.serving.end t p content out r →
      step w (login t i content out) ≡ serves w (after_login w.serving t r) →
      Answered (login t i content out) s a (serves w (after_login w.serving t r))
  login-answers t i p content out s a l r (login-refused x) e q =
      absurd (no-append w.serving.answers (in_series s a) (sym (append-nil w.serving.answers) ∙ q))
  login-answers t i p content out s a l r (login-taken h x c b d g z) e q =
      let bytes : List ℕ = login_bytes w.serving.end.day.date content in
      let cut = take-append_seam bytes (drop (length bytes) out) in
      let last : in_series t bytes ≡ in_series s a =
      same-last w.serving.answers (in_series t bytes) (in_series s a) (rw cut at q) in
      subst (λ (y : InSeries (List ℕ)). LoginTaken w (login t i content out) y.series y.what) last
      record {
        place = i;
        packet = p;
        content = content;
        out = out;
        event = refl;
        on_line = l;
        header = h;
        extension = x;
        body = c;
        read = g;
        tests = z;
        answer = refl;
        effect = rw cut at e;
      }

  -- Nothing but a login that was taken puts an answer on the line.
  pub answer-taken : (e : Event) (s : ℕ) (a : List ℕ)
      → (step w e).serving.answers ≡ w.serving.answers ++ (in_series s a ∷ []) → LoginTaken w e s a
  answer-taken (open_sender date ss rs) s a q = absurd (no-append w.serving.answers (in_series s a) q)
  answer-taken (publish t tid content) s a q = absurd (no-append w.serving.answers (in_series s a) q)
  answer-taken (login t i content out) s a q =
      by-given (Answered (login t i content out) s a) w (get_elem? w.receiving.requests i)
      (λ p. absurd (no-append w.serving.answers (in_series s a) p))
      (λ p l. login-answers t i p content out s a l (login_of w.serving.end t p content out)
      (login-cases w.serving.end t p content out) (taken-effect t i p content out l))
      q
  answer-taken (send t out) s a q = absurd (no-append w.serving.answers (in_series s a) q)
  answer-taken (send_packet t out) s a q = absurd (no-append w.serving.answers (in_series s a) q)
  answer-taken (open_receiver ss) s a q = absurd (no-append w.serving.answers (in_series s a) q)
  answer-taken connect s a q = absurd (no-append w.serving.answers (in_series s a) q)
  answer-taken (request_login t content out) s a q = absurd (no-append w.serving.answers (in_series s a) q)
  answer-taken (confirm_login i) s a q =
      by-given (Answered (confirm_login i) s a) w (get_elem? w.serving.answers i)
      (λ p. absurd (no-append w.serving.answers (in_series s a) p))
      (λ x l p. absurd (no-append w.serving.answers (in_series s a) p)) q
  answer-taken (receive i j) s a q =
      by-given (Answered (receive i j) s a) w (get_elem? w.serving.transmissions i)
      (λ p. absurd (no-append w.serving.answers (in_series s a) p))
      (λ m k. by-given (Answered (receive i j) s a) w (get_elem? m.packets j)
      (λ p. absurd (no-append w.serving.answers (in_series s a) p))
      (λ x l p. absurd (no-append w.serving.answers (in_series s a) p))) q

-- ─── Next behind it ───

-- The start that a login gave.
abbrev pub start_at : {w : World} {e : Event} {s : ℕ} {a : List ℕ} → LoginTaken w e s a → ℕ
start_at {w} t =
    start_of w.serving.end (dated_of t.packet).date (resume_of (part t.packet t.body.start t.body.len))

pub login-next : (w : World) (e : Event) (s : ℕ) (a : List ℕ) → Eight w.serving.end → (t : LoginTaken w e s a) →
    (place_of (step w e).serving.end s ≡ record { login = true; next = start_at t; piece = 0 }) × (1 ≤ start_at t)
    × (start_at t ≤ published_of w.serving.end s + 1)
login-next w e s a z t = (
  ap (λ (u : World). place_of u.serving.end s) t.effect
      ∙ place-next w.serving.end s t.tests.served z (start_at t) 0,
  t.tests.from_one,
  t.tests.behind,
)
