-- Right for a source, kept by what a packet or an answer comes to. Assumes nothing.
use Prim.Native.Nat.{ℕ, suc, ◌<◌}
use native.Mathlib.Omega.{arith}
use mathlib.Core.Path.{◌≡◌, refl, sym}
use mathlib.Core.List.{List, [], ◌∷◌, ◌++◌, map, append-nil}
use mathlib.Core.Bool.{Bool, true, false, cond}
use mathlib.Core.Option.{some}
use borrow.Author.Tests.{eqb-true, eqb-false, ltb-false}
use lib.ListN.{get_elem?}
use lib.Dec.{eqb}
use Rattle.ftd.specs.Types.{TradeDate}
use Rattle.flow.specs.declared.receiver.Receiver.{Receiver}
use Rattle.flow.specs.Ends.{before, differs, day_of, last_of}
use Rattle.flow.specs.Answers.{Message}
use Rattle.flow.specs.World.{Dated, dated}
use Rattle.flow.specs.Agreement.{of}
use Rattle.flow.proofs.right.Right.{Right, right-else, right_new, right-report, right-hands}
use Rattle.flow.proofs.steps.Moves.{Moves}
use Rattle.flow.proofs.pieces.Outcomes.{Delivered, keeps, reports, hands}
use Rattle.flow.proofs.common.Days.{Above, day-same, above_new}
use Rattle.std.specs.Prelude.{Some, None}

-- Every series of an end.
abbrev pub AllRight : Receiver → List (Dated Message) → List (Dated Message) → List (Dated ℕ) → Type 0
AllRight e P H R = (t : ℕ) → Right t (day_of e t) (last_of e t) P H R

module _ (P H : List (Dated Message)) (R : List (Dated ℕ)) where
  right-as : (s : ℕ) (date date' : TradeDate) (last last' : ℕ) → date ≡ date' → last ≡ last' → Right s date last P H R
      → Right s date' last' P H R
  right-as s date date' last last' p q o = rw (p, q) at o

  -- Nothing moved.
  pub right-stays : (e after : Receiver) → ((t : ℕ) → (day_of after t ≡ day_of e t) × (last_of after t ≡ last_of e t))
      → AllRight e P H R → AllRight after P H R
  right-stays e after m o t =
      right-as t (day_of e t) (day_of after t) (last_of e t) (last_of after t) (sym (m t).0) (sym (m t).1) (o t)

-- Series s moved; it is right if what is new of it is.
module _ (e after : Receiver) (s : ℕ) (date : TradeDate) (last : ℕ) (P H : List (Dated Message)) (R : List (Dated ℕ))
    (a b : TradeDate) (ms : List Message) (ks : List ℕ) where
  pub right-moves : Moves e after s date last → AllRight e P H R
      → Right s date last P (H ++ map (dated s a) ms) (R ++ map (dated s b) ks)
      → AllRight after P (H ++ map (dated s a) ms) (R ++ map (dated s b) ks)
  right-moves m o here t = go (eqb t s) refl
    where
      go : (c : Bool) → eqb t s ≡ c → Right t (day_of after t) (last_of after t) P (H ++ map (dated s a) ms)
          (R ++ map (dated s b) ks)
      go true q =
          let x : t ≡ s = eqb-true t s q in
          rw x (right-as P (H ++ map (dated s a) ms) (R ++ map (dated s b) ks) s date (day_of after s) last
          (last_of after s) (sym m.date) (sym m.last) here)
      go false q =
          let n = eqb-false t s q in
          let f = m.other t n in
          right-as P (H ++ map (dated s a) ms) (R ++ map (dated s b) ks) t (day_of e t) (day_of after t) (last_of e t)
          (last_of after t) (sym f.0) (sym f.1)
          (right-else t P H R (day_of e t) (last_of e t) s a b ms ks n (o t))

-- ─── A packet of the message at a place of series s and day d ───

module _ (e : Receiver) (s d place : ℕ) (x : Message) (P H : List (Dated Message)) (R : List (Dated ℕ))
    (there : get_elem? (of s d P) place ≡ some x) (o : AllRight e P H R) where
  abbrev today : day_of e s ≡ Some d → Right s (Some d) (last_of e s) P H R
  today q = right-as P H R s (day_of e s) (Some d) (last_of e s) (last_of e s) q refl (o s)

  pub right-delivered : (after : Receiver) (ms : List Message) (ks : List ℕ) → Delivered e s d (suc place) x after ms ks
      → AllRight after P (H ++ map (dated s (Some d)) ms) (R ++ map (dated s (day_of e s)) ks)
  right-delivered after ms ks (keeps m) =
      right-moves e after s (day_of e s) (last_of e s) P H R (Some d) (day_of e s) [] [] m o
      (rw (append-nil H, append-nil R) (o s))
  right-delivered after ms ks (reports {n = n} m q k) =
      right-moves e after s (day_of e s) (last_of e s) P H R (Some d) (day_of e s) [] (n ∷ []) m o
      (rw (append-nil H, k, q) (right-report s P H R d (last_of e s) (today q)))
  right-delivered after ms ks (hands {y = y} m q k i) =
      let l : place ≡ last_of e s = omega arith in
      right-moves e after s (Some d) (suc place) P H R (Some d) (day_of e s) (y ∷ []) (suc place ∷ []) m o
      (rw (q, k, i) (right-hands s P H R d (last_of e s) (today q) x (rw (← l) there)))

-- ─── An answer of day d, not below the kept one ───

above_kept : (d : ℕ) (date : TradeDate) → before (Some d) date ≡ false → (x : ℕ) → d < x → Above x date
above_kept d None q x h = tt
above_kept d (Some y) q x h = omega (arith, ltb-false d y q)

-- last is 0 on a new day, and what it was on the kept one.
pub right-confirmed : (s d : ℕ) (date : TradeDate) (last : ℕ) (P H : List (Dated Message)) (R : List (Dated ℕ))
    → before (Some d) date ≡ false → Right s date last P H R
    → Right s (Some d) (cond (differs (Some d) date) 0 last) P H
    (R ++ map (dated s (Some d)) (cond (differs (Some d) date) 0 last ∷ []))
right-confirmed s d date last P H R h o = go (differs (Some d) date) refl
  where
    go : (b : Bool) → differs (Some d) date ≡ b
        → Right s (Some d) (cond b 0 last) P H (R ++ map (dated s (Some d)) (cond b 0 last ∷ []))
    go true q = right_new s P H R date last d (above_new d date h q) (above_kept d date h) o
    go false q = right-report s P H R d last (right-as P H R s date (Some d) last last (day-same d date q) refl o)
