-- Trade date and last number of each series of a receiving end, and how they move. Assumes nothing.
use Prim.Native.Nat.{ℕ}
use mathlib.Core.Path.{◌≡◌, refl}
use mathlib.Core.Bool.{Bool, true, false, cond}
use Rattle.ftd.specs.Types.{TradeDate}
use Rattle.flow.specs.declared.receiver.LiveSeries.{LiveSeries}
use Rattle.flow.specs.declared.receiver.Receiver.{Receiver}
use Rattle.flow.specs.Ends.{is_open, with_series, day_of, last_of}
use Rattle.flow.proofs.ends.ReceiverLookups.{Eight, open-with, kept-with, kept-beside}
use mathlib.Core.List.{List}
use Rattle.flow.specs.Receiving.{connect_of}
use Rattle.flow.proofs.ends.ReceiverOpened.{opened_with, none_open, opened-kept, connect-open, connect-kept}
use Rattle.std.specs.Prelude.{None}

-- ─── Trade date and last number of a series ───

-- Series s has these now, and every other what it had.
pub record Moves (e after : Receiver) (s : ℕ) (d : TradeDate) (n : ℕ) : Type 0 where
  pub date : day_of after s ≡ d
  pub last : last_of after s ≡ n
  pub other : (t : ℕ) → (t ≡ s → ⊥) → (day_of after t ≡ day_of e t) × (last_of after t ≡ last_of e t)

pub moves_not : (e : Receiver) (s : ℕ) → Moves e e s (day_of e s) (last_of e s)
moves_not e s = record { date = refl; last = refl; other = λ t n. (refl, refl) }

-- Of any number of places.
pub moves-kept : (e : Receiver) (s : ℕ) → is_open e s ≡ true → (date : TradeDate) (last : ℕ) (live : LiveSeries)
    → Moves e (with_series e s date last live) s date last
moves-kept e s o date last live =
    let x = open-with e s o date last live in
    let k = kept-with e s o date last live in
    record {
      date = rw (x s, o, k);
      last = rw (x s, o, k);
      other = λ t n. let m = kept-beside e s o date last live t n in rw (x t, m) (refl, refl);
    }

pub moves-with : (e : Receiver) → Eight e → (s : ℕ) → is_open e s ≡ true
    → (date : TradeDate) (last : ℕ) (live : LiveSeries) → Moves e (with_series e s date last live) s date last
moves-with e eight = moves-kept e

-- None moved.
abbrev pub Same : Receiver → Receiver → Type 0
Same e after = (t : ℕ) → (day_of after t ≡ day_of e t) × (last_of after t ≡ last_of e t)

-- ─── Opening and Connect: none moves ───

pub opened-same : (e : Receiver) (ss : List ℕ) → e.kept.count ≡ 0 → Same e (opened_with ss)
opened-same e ss z s =
    let k = opened-kept ss s in
    let c = none_open e z s in
    rw (k.0, k.1, c) (go (is_open (opened_with ss) s))
  where
    go : (b : Bool) → (◌≡◌ {A = TradeDate} (cond b None None) None) × (◌≡◌ {A = ℕ} (cond b 0 0) 0)
    go true = (refl, refl)
    go false = (refl, refl)

pub connect-same : (e : Receiver) → Same e (connect_of e)
connect-same e s = rw (connect-open e s, connect-kept e s) (refl, refl)
