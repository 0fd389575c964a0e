-- A receiving end that is right for a source, of each series: what it handed on and reported, and what its chains hold.
-- Each of its calls keeps it so, in any state and of any bytes, if Receive is handed packets of published messages, in any
-- order and number. Assumes nothing.
use Prim.Native.Nat.{ℕ, suc}
use native.Mathlib.Omega.{arith}
use mathlib.Core.Path.{◌≡◌, refl, ap}
use mathlib.Core.List.{List, [], ◌∷◌, ◌++◌, map, append-nil}
use mathlib.Core.Bool.{Bool, true, false}
use mathlib.Core.Option.{some}
use borrow.Author.Tests.{eqb-true, eqb-false}
use lib.ListN.{get_elem?}
use lib.Dec.{eqb}
use Rattle.ftd.specs.Packet.{dated_of}
use Rattle.ftd.specs.Types.{TradeDate}
use Rattle.flow.specs.Types.{Opened}
use Rattle.flow.specs.declared.receiver.LiveSeries.{LiveSeries}
use Rattle.flow.specs.declared.receiver.Receiver.{Receiver}
use Rattle.flow.specs.Types.{Confirmed}
use Rattle.flow.specs.Ends.{Left, before, day_of, last_of, fresh_receiver, is_open, kept_of, live_of, logged_in}
use Rattle.flow.specs.Ends.{with_series}
use Rattle.flow.specs.Answers.{Message, confirmed_said, received_said, message_in, report_in}
use Rattle.flow.specs.Receiving.{open_end_of, connect_of, last_after, confirm_login_of, receive_of}
use Rattle.flow.specs.World.{Dated, dated}
use Rattle.flow.specs.Agreement.{of}
use Rattle.flow.proofs.ends.ReceiverLookups.{Eight, with-changed}
use Rattle.flow.proofs.calls.Receiving.{Opened-as, opens, open-as, Confirmed-as, confirms, confirm-as}
use Rattle.flow.proofs.ends.ReceiverOpened.{fresh-closed, opened-live, connect-live, opened_with}
use Rattle.flow.proofs.steps.Moves.{Moves, Same, moves-with, opened-same, connect-same}
use Rattle.flow.proofs.pieces.Outcomes.{Delivered}
use Rattle.flow.proofs.pieces.Others.{with-elsewhere}
use Rattle.flow.proofs.pieces.Takes.{PacketAt, Before, take-holds, take-delivers, take-elsewhere}
use Rattle.flow.proofs.right.Right.{Right, right-start, right-grows}
use Rattle.flow.proofs.right.Chain.{ChainRight, chain-grows, chain-none, chain-elsewhere, counted-holding}
use Rattle.flow.proofs.right.Kept.{AllRight, right-stays, right-moves, right-delivered, right-confirmed}
use Rattle.std.specs.Prelude.{Some, None}

-- Against the publications P of all series and days: handed on H, reported R, the end and its buffer.
pub record EndRight (P H : List (Dated Message)) (R : List (Dated ℕ)) (e : Receiver) (buffer : List ℕ) : Type 0 where
  pub right : AllRight e P H R
  pub chains : (s : ℕ) → ChainRight P e buffer s

-- ─── Fresh; more is published ───

pub fresh-right : (buffer : List ℕ) → EndRight [] [] [] fresh_receiver buffer
fresh-right buffer =
    record { right = λ s. rw (fresh-closed s) (right-start s []); chains = λ s o. absurd (closed s o.open-series) }
  where
    closed : (s : ℕ) → is_open fresh_receiver s ≡ true → ⊥
    closed s q = let f = fresh-closed s in let z : ◌≡◌ {A = ℕ} 0 1 = cc in omega arith

module _ (P H : List (Dated Message)) (R : List (Dated ℕ)) (e : Receiver) (buffer : List ℕ)
    (h : EndRight P H R e buffer) where
  pub grown-right : (Q : List (Dated Message)) → EndRight (P ++ Q) H R e buffer
  grown-right Q =
      record {
        right = λ s. right-grows s P H R (day_of e s) (last_of e s) Q (h.right s);
        chains = λ s. chain-grows P Q e
            buffer s (h.chains s);
      }

  -- ─── Opening and Connect: no day and no number moves, and there is no chain ───

  cleared : (after : Receiver) → Same e after → ((s : ℕ) → (live_of after s).chain ≡ false) → EndRight P H R after buffer
  cleared after m f =
      record { right = right-stays P H R e after m h.right; chains = λ s. chain-none P after buffer s (f s) }

  pub open-right : (ss : List ℕ) → EndRight P H R (open_end_of e ss).end buffer
  open-right ss = go (open_end_of e ss) (open-as e ss)
    where
      go : (r : Left Receiver Opened) → Opened-as e ss r → EndRight P H R r.end buffer
      go r Opened-as.refuses = h
      go r (opens z w) =
          cleared (opened_with ss) (opened-same e ss z) λ s. ap (λ (l : LiveSeries). l.chain) (opened-live ss s)

  pub connect-right : EndRight P H R (connect_of e) buffer
  connect-right = cleared (connect_of e) (connect-same e) λ s. ap (λ (l : LiveSeries). l.chain) (connect-live e s)

  -- ─── Answer: of any bytes ───

  module _ (eight : Eight e) (s : ℕ) where
    -- One series changed, and it has no chain.
    others : (date : TradeDate) (last : ℕ) → is_open e s ≡ true → (u : ℕ)
        → ChainRight P (with_series e s date last logged_in) buffer u
    others date last o u = go (eqb u s) refl
      where
        go : (b : Bool) → eqb u s ≡ b → ChainRight P (with_series e s date last logged_in) buffer u
        go true q =
            chain-none P (with_series e s date last logged_in) buffer u
            (rw (eqb-true u s q)
            (ap (λ (l : LiveSeries). l.chain) (with-changed e eight s o date last logged_in).live))
        go false q =
            chain-elsewhere P e buffer (with_series e s date last logged_in) buffer u
            (with-elsewhere e eight s o date last logged_in u (eqb-false u s q) buffer buffer (λ k l. refl))
            (h.chains u)

    -- ─── A chain that is dropped ───

    pub drop-same : is_open e s ≡ true
        → Same e (with_series e s (kept_of e s).date (kept_of e s).last logged_in)
    drop-same o t = go (eqb t s) refl
      where
        m : Moves e (with_series e s (kept_of e s).date (kept_of e s).last logged_in) s (kept_of e s).date
            (kept_of e s).last
        m = moves-with e eight s o (kept_of e s).date (kept_of e s).last logged_in

        go : (b : Bool) → eqb t s ≡ b
            → (day_of (with_series e s (kept_of e s).date (kept_of e s).last logged_in) t ≡ day_of e t)
            × (last_of (with_series e s (kept_of e s).date (kept_of e s).last logged_in) t ≡ last_of e t)
        go true q = let y : t ≡ s = eqb-true t s q in rw (y, m.date, m.last, o) (refl, refl)
        go false q = m.other t (eqb-false t s q)

    pub drop-right : is_open e s ≡ true
        → EndRight P H R (with_series e s (kept_of e s).date (kept_of e s).last logged_in) buffer
    drop-right o =
        record {
          right = right-stays P H R e _ (drop-same o) h.right;
          chains = others (kept_of e s).date (kept_of e s).last o;
        }

    module _ (d : ℕ) (o : is_open e s ≡ true) (b : before (Some d) (kept_of e s).date ≡ false) where
      abbrev last : ℕ
      last = last_after e s (Some d)

      abbrev after : Receiver
      after = with_series e s (Some d) last logged_in

      moves : Moves e after s (Some d) last
      moves = moves-with e eight s o (Some d) last logged_in

      here : Right s (Some d) last P (H ++ map (dated s None) []) (R ++ map (dated s (day_of after s)) (last ∷ []))
      unfolding last_after
      here =
          rw (moves.date, append-nil H)
          (right-confirmed s d (kept_of e s).date (kept_of e s).last P H R b (rw o at (h.right s)))

      confirmed : EndRight P H (R ++ map (dated s (day_of after s)) (last ∷ [])) after buffer
      confirmed =
          record {
            right =
                rw (append-nil H) at (right-moves e after s (Some d) last P H R None (day_of after s) [] (last ∷ []) moves
                h.right here);
            chains = others (Some d) last o;
          }

    -- Its report is of the day that is kept behind it.
    pub confirm-right : (p : List ℕ) →
        let r = confirm_login_of e s p in
        EndRight P H (R ++ map (dated s (day_of r.end s)) (report_in (confirmed_said r.answer))) r.end buffer
    confirm-right p = go (dated_of p).date (confirm_login_of e s p) (confirm-as e s p)
      where
        go : (date : TradeDate) (r : Left Receiver Confirmed) → Confirmed-as e s date r
            → EndRight P H (R ++ map (dated s (day_of r.end s)) (report_in (confirmed_said r.answer))) r.end
            buffer
        go date r (Confirmed-as.refuses x) = rw (append-nil R) h
        go date r (confirms d i o b) = rw i (confirmed d o b)

    -- ─── Receive: packet j, p, of the message x at a place of the day d ───

    module _ (d place : ℕ) (x : Message) (j : ℕ) (p : List ℕ)
        (placed : get_elem? (of s d P) place ≡ some x)
        (at : PacketAt s x.tid (suc place) d x.content j p)
      where
        before-it : Before e buffer s x.tid (suc place) d x.content j
        before-it = record {
          held =
              λ l q n k. let f : place ≡ (kept_of e s).last = omega arith in
              counted-holding P e buffer s (h.chains s) d (suc place) x (rw f at placed) q n j k;
        }

        pub receive-delivers :
            let r = receive_of e p buffer in
            Delivered e s d (suc place) x r.end (message_in (received_said p r.bytes r.answer))
            (report_in (received_said p r.bytes r.answer))
        receive-delivers = take-delivers at e eight buffer before-it

        here-held : ChainRight P (receive_of e p buffer).end (receive_of e p buffer).bytes s
        here-held o =
            let k = take-holds at e eight buffer before-it o in
            let n = k.number in
            let f : place ≡ (kept_of (receive_of e p buffer).end s).last = omega arith in
            record {
              day = d;
              message = x;
              pieces = suc j;
              placed = rw f at placed;
              good = at.good;
              held =
                  record {
                    tid = k.tid;
                    held = k.held;
                    pieces = k.pieces;
                    bytes = k.bytes;
                    date = k.date;
                    number = refl;
                  };
            }

        held : (u : ℕ) → ChainRight P (receive_of e p buffer).end (receive_of e p buffer).bytes u
        held u = go (eqb u s) refl
          where
            go : (b : Bool) → eqb u s ≡ b → ChainRight P (receive_of e p buffer).end (receive_of e p buffer).bytes u
            go true q = let y : u ≡ s = eqb-true u s q in rw y here-held
            go false q =
                chain-elsewhere P e buffer (receive_of e p buffer).end (receive_of e p buffer).bytes u
                (take-elsewhere at e eight buffer u (eqb-false u s q)) (h.chains u)

        -- What is handed on is of the packet's day, a report of the kept one.
        pub receive-right :
            let r = receive_of e p buffer in
            EndRight P (H ++ map (dated s (Some d)) (message_in (received_said p r.bytes r.answer)))
            (R ++ map (dated s (day_of e s)) (report_in (received_said p r.bytes r.answer))) r.end r.bytes
        receive-right =
            record {
              right = right-delivered e s d place x P H R placed h.right (receive_of e p buffer).end _ _
                  receive-delivers;
              chains = held;
            }
