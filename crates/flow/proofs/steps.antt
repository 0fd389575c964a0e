-- Layer "the receiver's step": each call of a receiving end does one of these: nothing to trade date and last; a new
-- day; the next message handed on; a piece held (`Turn`, `Got`). Which one, by its definition. Stated of one end in any
-- state, of any bytes, with no word of a line.
pub mod Moves
pub mod Turns
use Prim.Native.Nat.{ℕ}
use mathlib.Core.Path.{◌≡◌, refl}
use mathlib.Core.List.{List, []}
use mathlib.Core.Bool.{Bool, true}
use Rattle.ftd.specs.Packet.{dated_of}
use Rattle.ftd.specs.Types.{TradeDate}
use Rattle.flow.specs.declared.receiver.Receiver.{Receiver}
use Rattle.flow.specs.Ends.{day_of, last_of, is_open, all_parts}
use Rattle.flow.specs.Answers.{Message, confirmed_said, received_said, message_in, report_in}
use Rattle.flow.specs.Receiving.{open_end_of, connect_of, request_login_of, confirm_login_of, receive_of}
use Rattle.flow.proofs.common.Days.{Upto}
use Rattle.flow.proofs.ends.ReceiverLookups.{Eight}
use Rattle.flow.proofs.steps.Turns.{Turn, connects, open_turn, request-turn, confirm-turn, receive-turn, Onward}
use Rattle.flow.proofs.steps.Turns.{turn-eight, turn-onward, turn-open, turn-parts}

pub record StepLaws : Type 0 where
  -- Each call is a step; o is a day that no answer is above, c says whether it is a connection.
  pub open-steps : (o : TradeDate) (c : Bool) (e : Receiver) (ss : List ℕ) → Turn o c e (open_end_of e ss).end [] []
  pub connect-steps : (o : TradeDate) (e : Receiver) → Turn o true e (connect_of e) [] []
  pub request-steps : (o : TradeDate) (c : Bool) (e : Receiver) (s : ℕ) (content out : List ℕ)
      → Turn o c e (request_login_of e s content out).end [] []
  pub confirm-steps : (o : TradeDate) (c : Bool) (e : Receiver) (s : ℕ) (p : List ℕ) → Upto (dated_of p).date o →
      let r = confirm_login_of e s p in
      Turn o c e r.end (message_in (confirmed_said r.answer)) (report_in (confirmed_said r.answer))
  pub receive-steps : (o : TradeDate) (c : Bool) (e : Receiver) (p buffer : List ℕ) →
      let r = receive_of e p buffer in
      Turn o c e r.end (message_in (received_said p r.bytes r.answer))
      (report_in (received_said p r.bytes r.answer))
  -- Of every step: 8 places each stay; within a day last only grows, a series' days only rise; what is open stays open.
  pub eight : (o : TradeDate) (c : Bool) (e : Receiver) → Eight e → (after : Receiver) (ms : List Message) (ks : List ℕ)
      → Turn o c e after ms ks → Eight after
  pub onward : (o : TradeDate) (c : Bool) (e : Receiver) → Eight e
      → (after : Receiver) (ms : List Message) (ks : List ℕ) → Turn o c e after ms ks
      → (s : ℕ) → Onward (day_of e s) (last_of e s) (day_of after s) (last_of after s)
  pub stays_open : (o : TradeDate) (c : Bool) (e : Receiver) → Eight e
      → (after : Receiver) (ms : List Message) (ks : List ℕ) → Turn o c e after ms ks
      → (s : ℕ) → is_open e s ≡ true → is_open after s ≡ true
  pub parts : (o : TradeDate) (c : Bool) (e : Receiver) → Eight e → (after : Receiver) (ms : List Message) (ks : List ℕ)
      → Turn o c e after ms ks
      → (s : ℕ) → is_open e s ≡ true → all_parts after ≡ all_parts e

pub step-laws : StepLaws
step-laws =
    record {
      open-steps = open_turn;
      connect-steps = λ o e. connects refl;
      request-steps = request-turn;
      confirm-steps = confirm-turn;
      receive-steps = receive-turn;
      eight = turn-eight;
      onward = turn-onward;
      stays_open = turn-open;
      parts = turn-parts;
    }
