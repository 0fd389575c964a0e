-- What start a login takes, and why it is at most last + 1 of the end that hears its answer: of any serving end, of a
-- receiving end in any state and of any login packet that it asked for, then or before. Assumes nothing.
use Prim.Native.Nat.{ℕ, ◌+◌}
use mathlib.Core.Path.{◌≡◌, refl, sym, ap, ◌∙◌}
use mathlib.Core.List.{List}
use mathlib.Core.Bool.{Bool, true}
use borrow.Author.Tests.{eqb-true, not-false}
use lib.ListN.{length}
use Rattle.ftd.specs.Bytes.{part}
use Rattle.ftd.specs.Packet.{dated_of}
use Rattle.ftd.specs.Tags.{tags_for, extension_bytes}
use Rattle.ftd.specs.Fields.{shaped}
use Rattle.ftd.specs.Resume.{resume_of}
use Rattle.ftd.specs.Login.{login_bytes}
use Rattle.ftd.specs.declared.resume.Resume.TheVariants.{Next}
use Rattle.ftd.specs.declared.packet.Span.{Span}
use Rattle.ftd.specs.declared.packet.Header.{Header}
use Rattle.ftd.specs.declared.packet.Dated.{Dated as Read}
use Rattle.ftd.specs.declared.packet.Packet.TheVariants.{Message as Accepted}
use Rattle.ftd.specs.Types.{TradeDate}
use Rattle.flow.specs.declared.sender.Sender.{Sender}
use Rattle.flow.specs.declared.receiver.Receiver.{Receiver}
use Rattle.flow.specs.Ends.{before, is_open, kept_of, day_of, last_of}
use Rattle.flow.specs.Answers.{Message, written, requested_said}
use Rattle.flow.specs.Serving.{start_elsewhere, start_of}
use Rattle.flow.specs.Receiving.{request_login_of}
use Rattle.flow.proofs.common.Lists.{Every}
use Rattle.flow.proofs.ends.ReceiverLookups.{Eight}
use Rattle.flow.proofs.calls.Serving.{LoginTests}
use Rattle.ftd.proofs.login.Laws.{login-back, login-content}
use Rattle.flow.proofs.packets.Requests.{full_of, full-shaped, request-start, by_written}
use Rattle.flow.proofs.steps.Turns.{Turn, turn-onward, turn-open}
use Rattle.flow.proofs.logins.Timely.{Reached, timed-onward, timed-now, Request, start-reached}
use Rattle.std.specs.Prelude.{Some, None}

-- What Ask writes is a request, if nothing was received without a day.
pub asked-request : (r : Receiver) (s : ℕ) (c out : List ℕ) → ((kept_of r s).date ≡ None → (kept_of r s).last ≡ 0) →
    let a = request_login_of r s c out in
    Every (Request r) (written a.bytes (requested_said a.answer))
asked-request r s c out z =
    by_written r s c out (Every (Request r)) tt λ a.
    let q : Request r (login_bytes _ _) =
    record {
      series = s;
      date = _;
      next = _;
      content = c;
      is = refl;
      asking = a.asking;
      opens = a.opens;
      timed = rw a.opens (timed-now (kept_of r s).date (kept_of r s).last z);
    } in
    (q, tt)

-- It stays one, whatever the end that asked is called for.
pub request-onward : (o : TradeDate) (c : Bool) (r : Receiver) → Eight r
    → (r' : Receiver) (ms : List Message) (ks : List ℕ) → Turn o c r r' ms ks → (p : List ℕ) → Request r p
    → Request r' p
request-onward o c r eight r' ms ks t p q =
    record {
      series = q.series;
      date = q.date;
      next = q.next;
      content = q.content;
      is = q.is;
      asking = q.asking;
      opens = turn-open o c r eight r' ms ks t q.series q.opens;
      timed =
          timed-onward q.date q.next (day_of r q.series) (last_of r q.series) (day_of r' q.series)
          (last_of r' q.series)
          (turn-onward o c r eight r' ms ks t q.series) q.timed;
    }

-- ─── A login that takes it, on day d ───

span_same : (g h : Header) (a b x y : Span) → Accepted g a b ≡ Accepted h x y → b ≡ y
span_same g h a b x y q = cc

module _ (e : Sender) (d : ℕ) (day : e.day.date ≡ Some d) (r : Receiver) (p : List ℕ) (q : Request r p) (s : ℕ)
    (content out : List ℕ) (h : Header) (x body : Span)
    (read : (dated_of p).packet ≡ Accepted h x body)
    (tests : LoginTests e s h (dated_of p).date (part p body.start body.len) content out)
  where
    abbrev full : List ℕ
    full = full_of q.series q.next q.content

    good : shaped full 4080 ≡ true
    good = full-shaped q.series q.next q.date q.content q.asking

    date-is : (dated_of p).date ≡ q.date
    date-is = ap (λ (p : List ℕ). (dated_of p).date) q.is ∙ ap (λ (x : Read). x.date) (login-back q.date full good)

    content-is : part p body.start body.len ≡ full
    content-is =
        let b =
        span_same _ _ _ _ _ _
        (sym read ∙ ap (λ (p : List ℕ). (dated_of p).packet) q.is
        ∙ ap (λ (x : Read). x.packet) (login-back q.date full good)) in
        ap (λ (x : Span). part p x.start x.len) b
        ∙ ap (λ (p : List ℕ). part p (4 + length (extension_bytes (tags_for q.date)) + 16) (length full)) q.is
        ∙ login-content q.date full

    start_is : resume_of (part p body.start body.len) ≡ Next q.series q.next
    start_is = ap resume_of content-is ∙ request-start q.series q.next q.date q.content q.asking

    series-is : q.series ≡ s
    series-is = eqb-true q.series s (not-false _ (ap (start_elsewhere s) (sym start_is) ∙ tests.here))

    -- The series is open at the end that asked, and it wants this number of day d or a later one, or it has passed the
    -- day.
    pub taken-opens : is_open r s ≡ true
    taken-opens = ap (is_open r) (sym series-is) ∙ q.opens

    pub taken-reached : Reached d (start_of e (dated_of p).date (resume_of (part p body.start body.len)))
        (day_of r s) (last_of r s)
    taken-reached =
        let b = ap (before e.day.date) (sym date-is) ∙ tests.timely in
        let k =
        start-reached e d day q.series q.date q.next (day_of r q.series) (last_of r q.series) q.timed
        b in
        rw (date-is, start_is) (back q.series series-is k)
      where
        back : (x : ℕ) → x ≡ s → Reached d (start_of e q.date (Next q.series q.next)) (day_of r x) (last_of r x)
            → Reached d (start_of e q.date (Next q.series q.next)) (day_of r s) (last_of r s)
        back x f k = rw f at k
