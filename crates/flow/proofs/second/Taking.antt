-- What a receiving end takes: a login's answer logs it in, and a message delivered whole that it wants, or had, is
-- received. Assumes nothing.
use Prim.Native.Nat.{ℕ, suc, ◌+◌, ◌≤◌}
use native.Mathlib.Omega.{arith}
use mathlib.Core.Path.{◌≡◌, refl, sym, ap, ◌∙◌}
use mathlib.Core.List.{List, [], ◌∷◌}
use mathlib.Core.Bool.{Bool, true, false}
use mathlib.Core.Logic.{◌⊎◌, inl, inr}
use mathlib.Core.Option.{some}
use borrow.Author.Tests.{le-ltb, eqb-true, eqb-false}
use lib.ListN.{length, get_elem?}
use lib.Dec.{eqb}
use Rattle.ftd.specs.Login.{login_bytes}
use Rattle.ftd.specs.Packet.{dated_of}
use Rattle.ftd.specs.Chain.{header_for, packets_of}
use Rattle.ftd.specs.Fields.{shaped}
use Rattle.ftd.specs.Chain.Laws.{piece_at_place}
use Rattle.ftd.specs.Chain.Laws.{packet_at_place as packet_at}
use Rattle.ftd.specs.declared.chain.Message.{Message as Headed}
use Rattle.ftd.specs.declared.packet.Span.{Span}
use Rattle.ftd.specs.declared.packet.Header.{Header}
use Rattle.ftd.specs.declared.packet.Dated.{Dated as Read}
use Rattle.ftd.specs.declared.packet.Packet.TheVariants.{Message as Accepted}
use Rattle.ftd.specs.Types.{TradeDate}
use Rattle.ftd.specs.Types.{PacketPlace}
use Rattle.flow.specs.declared.receiver.KeptSeries.{KeptSeries}
use Rattle.flow.specs.declared.receiver.LiveSeries.{LiveSeries}
use Rattle.flow.specs.declared.receiver.Receiver.{Receiver}
use Rattle.flow.specs.declared.receiver.Received.{Received}
use Rattle.flow.specs.Ends.{Wrote, before, logged_in, is_open, kept_of, with_series, all_parts, day_of, last_of}
use Rattle.flow.specs.Receiving.{last_after, confirm_login_of, advance, receive_with, receive_of}
use Rattle.flow.specs.Answers.{Message, received_said, message_in}
use Rattle.flow.specs.World.{whole, Transmission, World, continues}
use Rattle.flow.proofs.packets.Answers.{Answering, confirm_by_login, confirm-by-login}
use Rattle.flow.proofs.ends.ReceiverLookups.{kept_same, live_same, open_stays, Eight}
use Rattle.flow.proofs.steps.Turns.{receive-turn, confirm-onward}
use Rattle.flow.proofs.logins.Timely.{Reached, reached-onward, reached-here}
use Rattle.flow.proofs.second.Sending.{Whole}
use Rattle.flow.proofs.second.Ready.{Ready, turn-ready}
use Rattle.flow.proofs.common.Extends.{place_inside, place-get_d}
use Rattle.flow.proofs.calls.Receive.{Took, unknown, not_in, repeats, hands-single, holds-first, holds-middle}
use Rattle.flow.proofs.calls.Receive.{hands-last, receive-with}
use Rattle.flow.proofs.packets.Messages.{header_at, span_at, packet-dated, packet-received}
use Rattle.flow.proofs.pieces.Completes.{Wants}
use Rattle.flow.proofs.packets.Genuine.{headed, BegunIn, AllBegun}
use Rattle.flow.proofs.common.Lists.{every-at}
use Rattle.flow.proofs.second.Followed.{Followed, receive-completes}
use Rattle.flow.proofs.common.Days.{Upto}
use Rattle.std.specs.Prelude.{Some, None}

-- ─── An answer logs in ───

not-below : (d : ℕ) (o : TradeDate) → Upto o (Some d) → before (Some d) o ≡ false
not-below d None u = refl
not-below d (Some c) u = le-ltb d c u

-- On day d, where the receiving end keeps no later one.
pub logs-in : (r : Receiver) → Eight r → (s d k : ℕ) (content : List ℕ) → Answering content → is_open r s ≡ true
    → Upto (kept_of r s).date (Some d) → Reached d k (day_of r s) (last_of r s)
    → Ready (confirm_login_of r s (login_bytes (Some d) content)).end s d k
unfolding confirm_by_login last_after
logs-in r h s d k content a o u g =
    let b = not-below d (kept_of r s).date u in
    let last = last_after r s (Some d) in
    let n =
    reached-here d k (Some d) last refl
    (reached-onward d k (day_of r s) (last_of r s) (Some d) last
    (rw o (confirm-onward (kept_of r s).date (kept_of r s).last d b)) g) in
    let shape = h in
    let f = kept_same r shape s o (Some d) last logged_in in
    let after : Ready (with_series r s (Some d) last logged_in) s d k =
    record {
      opens = open_stays r shape s o (Some d) last logged_in s ∙ o;
      login = ap (λ (x : LiveSeries). x.login) (live_same r shape s o (Some d) last logged_in);
      date = ap (λ (x : KeptSeries). x.date) f;
      reached = rw f n;
    } in
    rw (confirm-by-login (Some d) content a r s, o, b) after

-- ─── A message on the line is one message ───

accepted-same : (g h : Header) (a b x y : Span) → Accepted g a b ≡ Accepted h x y → g ≡ h
accepted-same g h a b x y q = cc

-- Two messages with the same packet have the same series, number and day.
pub same_head : (m n : Headed) (c b : List ℕ) (j : ℕ) (p : List ℕ) → shaped c 32768 ≡ true → shaped b 32768 ≡ true
    → get_elem? (packets_of m c) j ≡ some p
    → get_elem? (packets_of n b) j ≡ some p → (m.series ≡ n.series) × (m.number ≡ n.number) × (m.date ≡ n.date)
unfolding header_for
same_head m n c b j p x y f g =
    let i = place_inside (packets_of m c) j p f in
    let k = place_inside (packets_of n b) j p g in
    let q =
    sym (packet-dated m c j i 32768 x) ∙ ap dated_of
    (place-get_d (packets_of m c) j p [] f ∙ sym (place-get_d (packets_of n b) j p [] g)) ∙ packet-dated n b j k 32768 y in
    let h = accepted-same _ _ _ _ _ _ (ap (λ (z : Read). z.packet) q) in
    (ap (λ (z : Header). z.series) h, ap (λ (z : Header). z.number) h, ap (λ (z : Read). z.date) q)

-- ─── A message that is handed on is received ───

took-handed : (e : Receiver) (h : Header) (date : TradeDate) (place : PacketPlace) (at : Span) (p content buffer : List ℕ) (x : Message)
    (r : Wrote Receiver Received)
    → Took e h date place at content buffer r → message_in (received_said p r.bytes r.answer) ≡ x ∷ []
    → r.end ≡ advance e h.series h.number logged_in
took-handed e h date place at p content buffer x r (unknown q) n = let z : ◌≡◌ {A = ℕ} 0 1 = cc in absurd (omega arith)
took-handed e h date place at p content buffer x r (not_in q) n = let z : ◌≡◌ {A = ℕ} 0 1 = cc in absurd (omega arith)
took-handed e h date place at p content buffer x r (Took.refuses y q l) n =
    let z : ◌≡◌ {A = ℕ} 0 1 = cc in absurd (omega arith)
took-handed e h date place at p content buffer x r (repeats l q k) n = let z : ◌≡◌ {A = ℕ} 0 1 = cc in absurd (omega arith)
took-handed e h date place at p content buffer x r (hands-single l q y) n = refl
took-handed e h date place at p content buffer x r (holds-first l q y m) n =
    let z : ◌≡◌ {A = ℕ} 0 1 = cc in absurd (omega arith)
took-handed e h date place at p content buffer x r (holds-middle l q g m) n =
    let z : ◌≡◌ {A = ℕ} 0 1 = cc in absurd (omega arith)
took-handed e h date place at p content buffer x r (hands-last l q g m) n = refl

-- Packet j of the message of series s, number k and day d.
packet-handed : (s d k : ℕ) (ps : List (List ℕ)) (g : Whole s d k ps) (j : ℕ) (p : List ℕ) → get_elem? ps j ≡ some p
    → (e : Receiver) (buffer : List ℕ) (x : Message)
    → let r = receive_of e p buffer in
    message_in (received_said p r.bytes r.answer) ≡ x ∷ [] → r.end ≡ advance e s k logged_in
unfolding header_for
packet-handed s d k ps g j p at e buffer x =
    let m = headed s g.tid k d in
    let f : get_elem? (packets_of m g.content) j ≡ some p = rw g.is at at in
    let i = place_inside (packets_of m g.content) j p f in
    let q = place-get_d (packets_of m g.content) j p [] f in
    rw (← q)
    (rw (packet-received m g.content j i 32768 g.shape e buffer)
    (took-handed e (header_at m g.content j i) (Some d) (Some j) (span_at m g.content j i) (packet_at m g.content j)
    (piece_at_place g.content j).bytes buffer x
    (receive_with e (header_at m g.content j i) (Some d) (Some j) (span_at m g.content j i) (piece_at_place g.content j).bytes
    buffer)
    (receive-with e (header_at m g.content j i) (Some d) (Some j) (span_at m g.content j i)
    (piece_at_place g.content j).bytes buffer)))

-- ─── A message delivered whole is received ───

-- Wanted next, or had already.
wanted : (r : Receiver) (buffer : List ℕ) (s d k : ℕ) → k ≤ 1000000 → all_parts r ≤ length buffer → Ready r s d k
    → Wants r buffer s k d ⊎ Ready r s d (suc k)
wanted r buffer s d k few room h = go (eqb k ((kept_of r s).last + 1)) refl
  where
    less : (k l : ℕ) → k ≤ suc l → (k ≡ l + 1 → ⊥) → suc k ≤ suc l
    less k l a n = omega arith

    go : (b : Bool) → eqb k ((kept_of r s).last + 1) ≡ b → Wants r buffer s k d ⊎ Ready r s d (suc k)
    go true q =
        inl (record {
          open-series = h.opens;
          login = h.login;
          date = h.date;
          number = eqb-true k ((kept_of r s).last + 1) q;
          few = few;
          room = room;
        })
    go false q =
        inr (record {
          opens = h.opens;
          login = h.login;
          date = h.date;
          reached = less k (kept_of r s).last h.reached
              (eqb-false k ((kept_of r s).last + 1) q);
        })

module _ (w : World) (eight : Eight w.receiving.end) (begun : AllBegun w.serving)
    (i j : ℕ) (m : Transmission)
    (here : get_elem? w.serving.transmissions i ≡ some m)
    (all : m.stands ≡ whole)
    (line : continues w.receiving.previous i j ≡ true)
    (room : all_parts w.receiving.end ≤ length w.receiving.buffer)
  where
    pub next-ready : (p : List ℕ) → get_elem? m.packets j ≡ some p → suc j ≡ length m.packets → (s d k : ℕ)
        → Whole s d k m.packets → Followed s d w → Ready w.receiving.end s d k
        → Ready (receive_of w.receiving.end p w.receiving.buffer).end s d (suc k)
    next-ready p at last s d k g followed h =
        elim (wanted w.receiving.end w.receiving.buffer s d k g.few room h) [
          | inl x ↦ handed x
          | inr x ↦ turn-ready w.receiving.end eight s d (suc k) _ _ _
              (receive-turn (Some d) false w.receiving.end p w.receiving.buffer) x
        ]
      where
        handed : Wants w.receiving.end w.receiving.buffer s k d
            → Ready (receive_of w.receiving.end p w.receiving.buffer).end s d (suc k)
        handed x =
            let e = w.receiving.end in
            let shape = eight in
            let o = every-at (BegunIn w.serving.published) w.serving.transmissions i m begun here in
            let same =
            same_head (headed s g.tid k d) (headed m.series o.what.tid (suc o.place) o.day) g.content
            o.what.content j p g.shape o.good
            (rw g.is at at) (rw (o.all all) at at) in
            let day : d ≡ o.day = at_same d o.day same.2 in
            let y = rw (same.0, same.1, day) at x in
            let done =
            receive-completes s d w.serving.transmissions e w.receiving.buffer eight w.receiving.previous
            followed i j m p here at line (sym same.0) w.serving.published o all (omega arith) (sym day) y in
            let q = packet-handed s d k m.packets g j p at e w.receiving.buffer o.what done in
            let f = kept_same e shape s x.open-series (kept_of e s).date k logged_in in
            rw q (record {
              opens = open_stays e shape s x.open-series (kept_of e s).date k logged_in s ∙ x.open-series;
              login =
                  ap (λ (y : LiveSeries). y.login)
                  (live_same e shape s x.open-series (kept_of e s).date k logged_in);
              date = ap (λ (y : KeptSeries). y.date) f ∙ x.date;
              reached = rw f (omega arith);
            })
          where
            at_same : (a b : ℕ) → Some a ≡ Some b → a ≡ b
            at_same a b q = cc
