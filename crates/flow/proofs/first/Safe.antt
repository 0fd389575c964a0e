-- What holds of the receiving end's side beside what was published; kept by what the serving end does, and by
-- Opening, Connect and Ask. Assumes nothing.
use Prim.Native.Nat.{ℕ}
use mathlib.Core.Path.{◌≡◌, ◌∙◌}
use mathlib.Core.List.{List, ◌++◌, []}
use Rattle.flow.specs.declared.receiver.Receiver.{Receiver}
use Rattle.flow.specs.Types.{Requested}
use Rattle.flow.specs.Ends.{Wrote, day_of, Left}
use Rattle.flow.specs.Answers.{Message}
use Rattle.flow.specs.Receiving.{open_end_of, connect_of, request_login_of}
use Rattle.flow.specs.World.{Dated, latest_of, ReceiverSide, after_reopen, after_connect, after_request}
use Rattle.flow.proofs.ends.ReceiverLookups.{Eight}
use Rattle.flow.proofs.ends.ReceiverOpened.{connect-eight}
use Rattle.flow.proofs.right.End.{EndRight, grown-right, open-right, connect-right}
use Rattle.flow.proofs.packets.Requests.{request-end}
use Rattle.flow.proofs.steps.Moves.{connect-same, opened-same}
use Rattle.flow.proofs.steps.Turns.{open_turn, turn-eight}
use Rattle.flow.proofs.calls.Receiving.{Opened-as, opens, open-as}
use mathlib.Core.Bool.{false}
use Rattle.flow.specs.Types.{Opened}
use Rattle.flow.specs.Agreement.{EachDated}
use Rattle.std.specs.Prelude.{None}

pub record Safe (P : List (Dated Message)) (v : ReceiverSide) : Type 0 where
  pub eight : Eight v.end
  -- The kept day is that of the last Answer that was taken.
  pub days : (s : ℕ) → day_of v.end s ≡ latest_of s None v.days
  pub right : EndRight P v.handed v.reports v.end v.buffer
  pub dated : EachDated v.handed × EachDated v.reports

module _ (P : List (Dated Message)) (v : ReceiverSide) (h : Safe P v) where
  -- ─── More is published ───

  pub safe-published : (Q : List (Dated Message)) → Safe (P ++ Q) v
  safe-published Q =
      record {
        eight = h.eight;
        days = h.days;
        right = grown-right P v.handed v.reports v.end v.buffer
            h.right Q;
        dated = h.dated;
      }

  -- ─── Opening, Connect and Ask ───

  pub safe-reopen : (ss : List ℕ) → Safe P (after_reopen v (open_end_of v.end ss))
  safe-reopen ss =
      record {
        eight =
            turn-eight None false v.end h.eight (open_end_of v.end ss).end [] []
            (open_turn None false v.end ss);
        days = λ s. still s (open_end_of v.end ss) (open-as v.end ss);
        right = open-right P v.handed v.reports v.end v.buffer h.right ss;
        dated = h.dated;
      }
    where
      still : (s : ℕ) (r : Left Receiver Opened) → Opened-as v.end ss r
          → day_of r.end s ≡ latest_of s None v.days
      still s r Opened-as.refuses = h.days s
      still s r (opens z q) = (opened-same v.end ss z s).0 ∙ h.days s

  pub safe-connect : Safe P (after_connect v (connect_of v.end))
  safe-connect =
      record {
        eight = connect-eight v.end h.eight;
        days = λ s. (connect-same v.end s).0 ∙ h.days s;
        right = connect-right P v.handed v.reports v.end v.buffer h.right;
        dated = h.dated;
      }

  pub safe-request : (s : ℕ) (content out : List ℕ) → Safe P (after_request v (request_login_of v.end s content out))
  safe-request s content out = go (request_login_of v.end s content out) (request-end v.end s content out)
    where
      go : (r : Wrote Receiver Requested) → r.end ≡ v.end → Safe P (after_request v r)
      go r q =
          record {
            eight = rw q h.eight;
            days = rw q h.days;
            right = rw q h.right;
            dated = h.dated;
          }
