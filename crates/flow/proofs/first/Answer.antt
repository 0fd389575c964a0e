-- Answer keeps what holds of the receiving end's side. Assumes nothing.
use Prim.Native.Nat.{ℕ}
use mathlib.Core.Path.{◌≡◌, refl, sym, ◌∙◌}
use mathlib.Core.List.{List, [], ◌∷◌, ◌++◌, map, append-nil}
use mathlib.Core.Bool.{Bool, true, false}
use borrow.Author.Tests.{eqb-true, eqb-false}
use lib.Dec.{eqb}
use Rattle.ftd.specs.Packet.{dated_of}
use Rattle.ftd.specs.Types.{TradeDate}
use Rattle.flow.specs.declared.receiver.Receiver.{Receiver}
use Rattle.flow.specs.Types.{Confirmed}
use Rattle.flow.specs.Ends.{Left, day_of, logged_in, with_series}
use Rattle.flow.specs.Answers.{Message, is_taken, confirmed_said, report_in}
use Rattle.flow.specs.Receiving.{last_after, confirm_login_of}
use Rattle.flow.specs.World.{InSeries, in_series, Dated, dated, latest_of, only, ReceiverSide}
use Rattle.flow.specs.World.{after_confirm}
use Rattle.flow.proofs.common.Histories.{latest_of-same, latest_of-other, each_append, each_at}
use Rattle.flow.proofs.calls.Receiving.{Confirmed-as, confirms, confirm-as}
use Rattle.flow.proofs.steps.Moves.{Moves, moves-with}
use Rattle.flow.proofs.right.End.{EndRight, confirm-right}
use Rattle.flow.proofs.first.Safe.{Safe}
use Rattle.flow.proofs.steps.Turns.{confirm-turn, turn-eight}
use Rattle.flow.proofs.common.Days.{upto-same}
use Rattle.flow.specs.Agreement.{EachDated}
use Rattle.std.specs.Prelude.{None}

module _ (P : List (Dated Message)) (v : ReceiverSide) (h : Safe P v) (s : ℕ)
    (p : List ℕ) where
  abbrev r : Left Receiver Confirmed
  r = confirm_login_of v.end s p

  -- The days of the Answers that were taken, with this one.
  abbrev days : Left Receiver Confirmed → List (InSeries TradeDate)
  days a = v.days ++ only (is_taken (confirmed_said a.answer)) (in_series s (dated_of p).date)

  confirmed-days : (t : ℕ) → day_of r.end t ≡ latest_of t None (days r)
  confirmed-days t = go (confirm_login_of v.end s p) (confirm-as v.end s p)
    where
      go : (a : Left Receiver Confirmed) → Confirmed-as v.end s (dated_of p).date a
          → day_of a.end t ≡ latest_of t None (days a)
      go a (Confirmed-as.refuses x) = rw (append-nil v.days) (h.days t)
      go a (confirms d i o b) = here (eqb t s) refl
        where
          last : ℕ
          last = last_after v.end s (dated_of p).date

          moves : Moves v.end (with_series v.end s (dated_of p).date last logged_in) s (dated_of p).date last
          moves = moves-with v.end h.eight s o (dated_of p).date last logged_in

          here : (c : Bool) → eqb t s ≡ c → day_of a.end t ≡ latest_of t None (days a)
          here true q =
              let x : t ≡ s = eqb-true t s q in rw x
              (moves.date ∙ sym (latest_of-same s None v.days (dated_of p).date))
          here false q =
              let n = eqb-false t s q in
              (moves.other t n).0 ∙ h.days t ∙ sym (latest_of-other t None v.days s (dated_of p).date n)

  confirmed-right : EndRight P v.handed
      (v.reports ++ map (dated s (latest_of s None (days r))) (report_in (confirmed_said r.answer))) r.end
      v.buffer
  confirmed-right =
      rw (confirmed-days s) at (confirm-right P v.handed v.reports v.end v.buffer h.right h.eight s p)

  confirmed-dated : EachDated (map (dated s (latest_of s None (days r))) (report_in (confirmed_said r.answer)))
  confirmed-dated = rw (← (confirmed-days s)) (go (confirm_login_of v.end s p) (confirm-as v.end s p))
    where
      go : (a : Left Receiver Confirmed) → Confirmed-as v.end s (dated_of p).date a
          → EachDated (map (dated s (day_of a.end s)) (report_in (confirmed_said a.answer)))
      go a (Confirmed-as.refuses x) = tt
      go a (confirms d i o b) =
          let last : ℕ = last_after v.end s (dated_of p).date in
          each_at s d (day_of (with_series v.end s (dated_of p).date last logged_in) s) (last ∷ [])
          ((moves-with v.end h.eight s o (dated_of p).date last logged_in).date ∙ i)

  pub safe-confirm : Safe P (after_confirm v s p (confirm_login_of v.end s p))
  safe-confirm =
      record {
        eight = turn-eight (dated_of p).date false v.end h.eight r.end _ _
            (confirm-turn (dated_of p).date false v.end s p (upto-same (dated_of p).date));
        days = confirmed-days;
        right = confirmed-right;
        dated = (h.dated.0, each_append v.reports _ h.dated.1 confirmed-dated);
      }
