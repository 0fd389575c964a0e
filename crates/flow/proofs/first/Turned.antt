-- What is turned away keeps what holds of the receiving end's side. Assumes nothing.
use Prim.Native.Nat.{ℕ}
use mathlib.Core.Path.{◌≡◌, ◌∙◌}
use mathlib.Core.List.{List, append-nil}
use mathlib.Core.Bool.{true}
use Rattle.ftd.specs.Packet.{dated_of}
use Rattle.ftd.specs.declared.refusal.Refusal.{Refusal}
use Rattle.flow.specs.declared.receiver.Received.TheVariants.{Refused as NotTaken}
use Rattle.flow.specs.Ends.{left, wrote, is_open, kept_of, logged_in}
use Rattle.flow.specs.Receiving.{dropped}
use Rattle.flow.specs.Answers.{Message}
use Rattle.flow.specs.World.{Dated, Transmission, series_in, ReceiverSide, after_confirm, after_receive}
use Rattle.flow.proofs.ends.ReceiverLookups.{eight-stays}
use Rattle.flow.proofs.right.End.{drop-same, drop-right}
use Rattle.flow.proofs.first.Safe.{Safe}
use Rattle.std.specs.Prelude.{Err}

module _ (P : List (Dated Message)) (v : ReceiverSide) (h : Safe P v) (x : Refusal) where
  pub safe-answer-turned : (s : ℕ) (p : List ℕ) → Safe P (after_confirm v s p (left v.end (Err x)))
  safe-answer-turned s p =
      record {
        eight = h.eight;
        days = rw (append-nil v.days) h.days;
        right = rw (append-nil v.reports) h.right;
        dated = rw (append-nil v.reports) h.dated;
      }

  pub safe-receive-turned : (i j : ℕ) (m : Transmission) (p : List ℕ)
      → is_open v.end (series_in (dated_of p).packet) ≡ true
      → Safe P
      (after_receive v m i j p
      (wrote (dropped v.end (series_in (dated_of p).packet)) (NotTaken x) v.buffer))
  safe-receive-turned i j m p o =
      let e = v.end in
      let s = series_in (dated_of p).packet in
      record {
        eight = eight-stays e h.eight s o (kept_of e s).date (kept_of e s).last logged_in;
        days = λ t. (drop-same P v.handed v.reports e v.buffer h.right h.eight s o t).0 ∙ h.days t;
        right =
            rw (append-nil v.handed, append-nil v.reports)
            (drop-right P v.handed v.reports e v.buffer h.right h.eight s o);
        dated = rw (append-nil v.handed, append-nil v.reports) h.dated;
      }
