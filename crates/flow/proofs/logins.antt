-- Layer "logins": a login's start is at most last + 1 of the end that hears its answer; from there what is sent is
-- start, start + 1, ... Stated of any serving end, of a receiving end in any state, and of a login packet that it asked
-- for at any time before (`Request`).
pub mod Taken
pub mod Timely
pub mod Consistent
pub mod Start
pub mod Starts
use Prim.Native.Nat.{ℕ, suc, ◌≤◌}
use mathlib.Core.Path.{◌≡◌}
use mathlib.Core.List.{List}
use mathlib.Core.Bool.{Bool, true}
use Rattle.ftd.specs.Bytes.{part}
use Rattle.ftd.specs.Packet.{dated_of}
use Rattle.ftd.specs.Resume.{resume_of}
use Rattle.ftd.specs.Types.{TradeDate}
use Rattle.ftd.specs.declared.packet.Span.{Span}
use Rattle.ftd.specs.declared.packet.Header.{Header}
use Rattle.ftd.specs.declared.packet.Packet.TheVariants.{Message as Accepted}
use Rattle.flow.specs.declared.sender.Sender.{Sender}
use Rattle.flow.specs.declared.receiver.Receiver.{Receiver}
use Rattle.flow.specs.Ends.{day_of, last_of, is_open, kept_of}
use Rattle.flow.specs.Answers.{Message, written, requested_said}
use Rattle.flow.specs.Serving.{start_of}
use Rattle.flow.specs.Receiving.{request_login_of}
use Rattle.flow.proofs.common.Lists.{Every}
use Rattle.flow.proofs.ends.ReceiverLookups.{Eight}
use Rattle.flow.proofs.calls.Serving.{LoginTests}
use Rattle.flow.proofs.steps.Turns.{Turn, Onward}
use Rattle.flow.proofs.logins.Timely.{Reached, reached-onward, reached-here, Request}
use Rattle.flow.proofs.logins.Start.{asked-request, request-onward, taken-opens, taken-reached}
use Rattle.std.specs.Prelude.{Some, None}

pub record LoginStarts : Type 0 where
  -- What Ask writes is a request, if nothing was received without a day; every step of the end keeps it one.
  pub asked : (r : Receiver) (s : ℕ) (c out : List ℕ) → ((kept_of r s).date ≡ None → (kept_of r s).last ≡ 0) →
      let a = request_login_of r s c out in
      Every (Request r) (written a.bytes (requested_said a.answer))
  pub kept : (o : TradeDate) (c : Bool) (r : Receiver) → Eight r → (r' : Receiver) (ms : List Message) (ks : List ℕ)
      → Turn o c r r' ms ks → (p : List ℕ) → Request r p → Request r' p
  -- A login that takes it on day d: the series is open at the end that asked, and the start is reached there,
  pub opens : (e : Sender) (d : ℕ) → e.day.date ≡ Some d → (r : Receiver) (p : List ℕ) → Request r p
      → (s : ℕ) (content out : List ℕ) (h : Header) (x body : Span)
      → (dated_of p).packet ≡ Accepted h x body
      → LoginTests e s h (dated_of p).date (part p body.start body.len) content out → is_open r s ≡ true
  pub reached : (e : Sender) (d : ℕ) → e.day.date ≡ Some d → (r : Receiver) (p : List ℕ) → Request r p
      → (s : ℕ) (content out : List ℕ) (h : Header) (x body : Span)
      → (dated_of p).packet ≡ Accepted h x body
      → LoginTests e s h (dated_of p).date (part p body.start body.len) content out
      → Reached d (start_of e (dated_of p).date (resume_of (part p body.start body.len))) (day_of r s) (last_of r s)
  -- stays reached, and is at most last + 1 whenever day d is kept.
  pub onward : (d k : ℕ) (date : TradeDate) (last : ℕ) (after : TradeDate) (n : ℕ) → Onward date last after n
      → Reached d k date last → Reached d k after n
  pub within : (d k : ℕ) (date : TradeDate) (last : ℕ) → date ≡ Some d → Reached d k date last → k ≤ suc last

pub login-starts : LoginStarts
login-starts =
    record {
      asked = asked-request;
      kept = request-onward;
      opens = taken-opens;
      reached = taken-reached;
      onward = reached-onward;
      within = reached-here;
    }
