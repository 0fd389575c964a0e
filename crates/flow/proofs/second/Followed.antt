-- Runs, of a series and a day: a chain holds what the run so far has brought (`Behind`), after every event, and after
-- every step of a line that turns none of them away; so a message for which the end is ready is handed on with the last
-- packet of a run over all its packets. Assumes nothing.
use Prim.Native.Nat.{ℕ, zero, suc, ◌+◌, ◌<◌}
use native.Mathlib.Omega.{arith}
use mathlib.Core.Path.{◌≡◌, refl, ap, ◌∙◌}
use mathlib.Core.List.{List, [], ◌∷◌}
use mathlib.Core.Bool.{Bool, true, false, cond}
use mathlib.Core.Option.{some}
use lib.ListN.{length, get_elem?}
use Rattle.ftd.specs.Chain.{packets_of, pieces_of}
use Rattle.ftd.specs.Fields.{shaped, most_content}
use Rattle.ftd.specs.declared.refusal.Refusal.{Refusal}
use Rattle.flow.specs.declared.receiver.Receiver.{Receiver}
use Rattle.flow.specs.declared.receiver.Received.{Received}
use Rattle.flow.specs.Ends.{Wrote}
use Rattle.flow.specs.Answers.{Message, received_said, message_in}
use Rattle.flow.specs.Receiving.{receive_of}
use Rattle.flow.specs.World.{came, other, Previous, whole, Transmission, Dated, Event, open_sender, publish, login}
use Rattle.flow.specs.World.{send, send_packet, open_receiver, connect, request_login, confirm_login, receive}
use Rattle.flow.specs.World.{SenderSide, World, step, continues}
use Rattle.flow.proofs.common.Extends.{Extends, same_some, place_kept}
use Rattle.flow.proofs.common.Rows.{by-given}
use Rattle.flow.proofs.ends.ReceiverLookups.{Eight}
use Rattle.flow.proofs.packets.Genuine.{headed, Begun}
use Rattle.flow.proofs.pieces.Completes.{Wants}
use Rattle.flow.proofs.pieces.Runs.{Run, Behind, behind-onward, run-before}
use Rattle.flow.proofs.pieces.Takes.{PacketAt, Running, running-before, take_within, take-holds, take-opens}
use Rattle.flow.proofs.pieces.Takes.{take-completes}
use Rattle.flow.proofs.source.Growth.{move-onward}
use Rattle.flow.proofs.lines.Steps.{receive_turned}
use Rattle.flow.proofs.source.Moves.{Move, open-move, publish-move, login-move, send-move, packet-move}

abbrev pub Followed : ℕ → ℕ → World → Type 0
Followed s d w =
    Behind s d w.serving.transmissions w.receiving.end w.receiving.buffer w.receiving.previous

-- ─── A packet that continues a run ───

module _ (u d : ℕ) (ts : List Transmission) (e : Receiver) (buffer : List ℕ) (eight : Eight e) (before : Previous)
    (behind : Behind u d ts e buffer before) (i j : ℕ) (m : Transmission) (p : List ℕ)
    (at : get_elem? ts i ≡ some m)
    (here : get_elem? m.packets j ≡ some p)
    (line : continues before i j ≡ true)
    (this : m.series ≡ u)
  where
    abbrev r : Wrote Receiver Received
    r = receive_of e p buffer

    abbrev s : ℕ
    s = m.series

    -- The packet before it came right before it.
    run-behind : (t k : ℕ) (c : List ℕ) → Extends m.packets (packets_of (headed s t k d) c)
        → shaped c most_content ≡ true → 0 < j → Run e buffer s t k d c j
    run-behind t k c w q = go j refl
      where
        go : (n : ℕ) → j ≡ n → 0 < n → Run e buffer s t k d c n
        go zero z l = absurd (omega arith)
        go (suc n) z l =
            let b : Behind u d ts e buffer (came i n) = rw (run-before before i j line n z) at behind in
            let x = same_some (get_elem? ts i) b.0 m b.1 at in
            let f : m.series ≡ u → (t k : ℕ) (c : List ℕ)
            → Extends m.packets (packets_of (headed m.series t k d) c)
            → shaped c most_content ≡ true → Run e buffer m.series t k d c (suc n) =
            rw x at b.2 in
            f this t k c w q

    running : (t k : ℕ) (c : List ℕ) → Extends m.packets (packets_of (headed s t k d) c)
        → shaped c most_content ≡ true → j < length (pieces_of c) → Running e buffer s t k d c j
    running t k c w q within =
        record {
          held = λ l. (run-behind t k c w q l).holding;
          opens = λ l. (run-behind t k c w q l).opens within;
        }

    -- One packet more of it has come.
    pub received-run : (t k : ℕ) (b : List ℕ) → Extends m.packets (packets_of (headed s t k d) b)
        → shaped b most_content ≡ true → Run r.end r.bytes s t k d b (suc j)
    received-run t k b w q =
        let a : PacketAt s t k d b j p = record { good = q; here = place_kept m.packets _ w j p here } in
        let run = running t k b w q (take_within a) in
        record {
          holding = take-holds a e eight buffer (running-before run);
          opens = take-opens a e eight buffer run;
        }

    -- With the last packet of a whole transmission, a message for which the end is ready is handed on.
    pub receive-completes : (P : List (Dated Message)) (g : Begun P m.series m.packets m.stands)
        → m.stands ≡ whole → j + 1 ≡ length m.packets → g.day ≡ d → Wants e buffer s (suc g.place) g.day
        → message_in (received_said p r.bytes r.answer) ≡ g.what ∷ []
    receive-completes P g w n q =
        let a : PacketAt s g.what.tid (suc g.place) g.day g.what.content j p =
        record { good = g.good; here = place_kept m.packets _ g.packets j p here } in
        let f : Extends m.packets (packets_of (headed s g.what.tid (suc g.place) d) g.what.content) =
        rw q at g.packets in
        take-completes a e eight buffer
        (rw q (running g.what.tid (suc g.place) g.what.content f g.good (take_within a)))
        (n ∙ ap length (g.all w))

-- ─── Every event ───

-- A call of the serving end.
served-followed : (s d : ℕ) (w : World) (u : SenderSide) → Move w.serving u → Followed s d w
    → Behind s d u.transmissions w.receiving.end w.receiving.buffer w.receiving.previous
served-followed s d w u m b =
    behind-onward s d w.serving.transmissions u.transmissions (move-onward w.serving u m) w.receiving.end
    w.receiving.buffer w.receiving.previous b

-- Of the world as a whole, so that it is known which world is meant.
pub record Follows (s d : ℕ) (w : World) : Type 0 where
  pub behind : Followed s d w

module _ (z d : ℕ) where
  pub step-followed : (w : World) (e : Event) → Eight w.receiving.end → Follows z d w → Follows z d (step w e)
  step-followed w (open_sender date ss rs) h b =
      record { behind = served-followed z d w _ (open-move w.serving date ss rs) b.behind }
  step-followed w (publish s tid content) h b =
      record { behind = served-followed z d w _ (publish-move w.serving s tid content) b.behind }
  step-followed w (login s i content out) h b =
      by-given (Follows z d) w (get_elem? w.receiving.requests i) b λ p q.
      record { behind = served-followed z d w _ (login-move w.serving s p content out) b.behind }
  step-followed w (send s out) h b =
      record { behind = served-followed z d w _ (send-move w.serving s out) b.behind }
  step-followed w (send_packet s out) h b =
      record { behind = served-followed z d w _ (packet-move w.serving s out) b.behind }
  step-followed w (open_receiver ss) h b = record { behind = tt }
  step-followed w connect h b = record { behind = tt }
  step-followed w (request_login s content out) h b = record { behind = tt }
  step-followed w (confirm_login i) h b =
      by-given (Follows z d) w (get_elem? w.serving.answers i) b λ a q. record { behind = tt }
  step-followed w (receive i j) h b =
      by-given (Follows z d) w (get_elem? w.serving.transmissions i) b λ m q.
      by-given (Follows z d) w (get_elem? m.packets j) b λ p r.
      record { behind = go m p q r (continues w.receiving.previous i j) refl }
    where
      go : (m : Transmission) (p : List ℕ) → get_elem? w.serving.transmissions i ≡ some m
          → get_elem? m.packets j ≡ some p → (x : Bool) → continues w.receiving.previous i j ≡ x →
          let a = receive_of w.receiving.end p w.receiving.buffer in
          Behind z d w.serving.transmissions a.end a.bytes (cond x (came i j) other)
      go m p q r true l = (
        m,
        q,
        λ n. received-run z d w.serving.transmissions w.receiving.end w.receiving.buffer h
            w.receiving.previous b.behind i j m p q r l n,
      )
      go m p q r false l = tt

  -- A packet that is turned away while another day is kept for its series, or of another series: its chain is gone.
  pub turned-followed : (w : World) (i j : ℕ) (m : Transmission) (p : List ℕ) (x : Refusal)
      → get_elem? w.serving.transmissions i ≡ some m
      → (m.series ≡ z → (t k : ℕ) (c : List ℕ)
      → Run (receive_turned w m i j p x).receiving.end w.receiving.buffer m.series t k d c (suc j))
      → Follows z d (receive_turned w m i j p x)
  turned-followed w i j m p x q f =
      record { behind = go (continues w.receiving.previous i j) }
    where
      go : (y : Bool)
          → Behind z d w.serving.transmissions (receive_turned w m i j p x).receiving.end w.receiving.buffer
          (cond y (came i j) other)
      go true = (m, q, λ n t k c l s. f n t k c)
      go false = tt
