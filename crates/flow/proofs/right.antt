-- Layer "right for a source": of trade date, last, chain, handed on and reported of each series against published lists
-- (`EndRight`): handed on is the first `last` published, a chain that has counted p pieces holds the first p of message
-- last + 1. A
-- predicate of these alone, not of how they came about; kept by every call of an end in any state that is handed
-- genuine packets.
pub mod Right
pub mod Chain
pub mod Kept
pub mod End
use Prim.Native.Nat.{ℕ, suc}
use mathlib.Core.Path.{◌≡◌}
use mathlib.Core.List.{List, [], ◌++◌, map}
use mathlib.Core.Bool.{true}
use mathlib.Core.Option.{some}
use lib.ListN.{get_elem?}
use Rattle.flow.specs.declared.receiver.Receiver.{Receiver}
use Rattle.flow.specs.Ends.{day_of, fresh_receiver, is_open, kept_of, logged_in, with_series}
use Rattle.flow.specs.Answers.{Message, confirmed_said, received_said, message_in, report_in}
use Rattle.flow.specs.Receiving.{open_end_of, connect_of, confirm_login_of, receive_of}
use Rattle.flow.specs.World.{Dated, dated}
use Rattle.flow.specs.Agreement.{of}
use Rattle.flow.proofs.ends.ReceiverLookups.{Eight}
use Rattle.flow.proofs.pieces.Takes.{PacketAt}
use Rattle.flow.proofs.right.End.{EndRight, fresh-right, grown-right, open-right, connect-right, confirm-right}
use Rattle.flow.proofs.right.End.{drop-right, receive-right}
use Rattle.std.specs.Prelude.{Some}

pub record RightLaws : Type 0 where
  pub fresh : (buffer : List ℕ) → EndRight [] [] [] fresh_receiver buffer
  -- More is published.
  pub grows : (P H : List (Dated Message)) (R : List (Dated ℕ)) (e : Receiver) (buffer : List ℕ)
      → EndRight P H R e buffer → (Q : List (Dated Message)) → EndRight (P ++ Q) H R e buffer
  pub opens : (P H : List (Dated Message)) (R : List (Dated ℕ)) (e : Receiver) (buffer : List ℕ)
      → EndRight P H R e buffer → (ss : List ℕ) → EndRight P H R (open_end_of e ss).end buffer
  pub connects : (P H : List (Dated Message)) (R : List (Dated ℕ)) (e : Receiver) (buffer : List ℕ)
      → EndRight P H R e buffer → EndRight P H R (connect_of e) buffer
  -- Answer, of any bytes: its report is of the day that is kept behind it.
  pub confirms : (P H : List (Dated Message)) (R : List (Dated ℕ)) (e : Receiver) (buffer : List ℕ)
      → EndRight P H R e buffer → Eight e → (s : ℕ) (p : List ℕ) →
      let r = confirm_login_of e s p in
      EndRight P H (R ++ map (dated s (day_of r.end s)) (report_in (confirmed_said r.answer))) r.end buffer
  -- A chain is dropped.
  pub drops : (P H : List (Dated Message)) (R : List (Dated ℕ)) (e : Receiver) (buffer : List ℕ)
      → EndRight P H R e buffer → Eight e → (s : ℕ) → is_open e s ≡ true
      → EndRight P H R (with_series e s (kept_of e s).date (kept_of e s).last logged_in) buffer
  -- Receive of packet j of the message x, published at a place of day d, whatever came before: the chain's count tells
  -- what it holds.
  pub receives : (P H : List (Dated Message)) (R : List (Dated ℕ)) (e : Receiver) (buffer : List ℕ)
      → EndRight P H R e buffer → Eight e → (s d place : ℕ) (x : Message) (j : ℕ) (p : List ℕ)
      → get_elem? (of s d P) place ≡ some x → PacketAt s x.tid (suc place) d x.content j p →
      let r = receive_of e p buffer in
      EndRight P (H ++ map (dated s (Some d)) (message_in (received_said p r.bytes r.answer)))
      (R ++ map (dated s (day_of e s)) (report_in (received_said p r.bytes r.answer))) r.end r.bytes

pub right-laws : RightLaws
right-laws =
    record {
      fresh = fresh-right;
      grows = grown-right;
      opens = open-right;
      connects = connect-right;
      confirms = confirm-right;
      drops = drop-right;
      receives = receive-right;
    }
