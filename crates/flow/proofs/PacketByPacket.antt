-- One packet a call (02, No. 4): what is on the line is the first packets of a published message; publishing changes
-- none that is still to come; a whole Send gives all. Assumes nothing.
use Prim.Native.Nat.{ℕ, suc, ◌+◌, ◌≤◌, ◌<◌}
use native.Mathlib.Omega.{arith}
use mathlib.Core.Path.{◌≡◌, refl, sym, ap, ◌∙◌}
use mathlib.Core.Logic.{◌↔◌}
use mathlib.Core.List.{List, [], ◌∷◌, ◌++◌}
use mathlib.Core.Bool.{Bool, true, false, not, ◌&&◌}
use mathlib.Core.Option.{some}
use borrow.Author.Tests.{not-true, eqb-true, eqb-false}
use lib.ListN.{length, drop, get_elem?, length-map}
use lib.Seq.{take-append_seam}
use lib.Dec.{T, eqb}
use Rattle.ftd.specs.Chain.{packets_of}
use Rattle.ftd.specs.declared.refusal.Refusal.TheVariants.{DamagedLog}
use Rattle.ftd.specs.Types.{TradeDate}
use Rattle.flow.specs.declared.sender.Place.{Place}
use Rattle.flow.specs.declared.sender.Sender.{Sender}
use Rattle.flow.specs.Types.{Published}
use Rattle.flow.specs.Ends.{Wrote, is_served, published_of, place_of, with_entry}
use Rattle.flow.specs.Log.{entry_bytes}
use Rattle.flow.specs.Answers.{Message}
use Rattle.flow.specs.Serving.{is_none_left, send_bytes, send_of, send_packet_of, publish_of}
use Rattle.flow.specs.World.{whole, Transmission, transmission, broken_off, goes_on, ended_in}
use Rattle.flow.specs.World.{packets_in, after_publish, after_send, SenderSide, World, serves, start, run}
use Rattle.flow.specs.Agreement.{of}
use Rattle.flow.specs.PacketByPacket.{headed_at, Begins, rest_of, to_come, has_left, AllSent, example_rows}
use Rattle.flow.specs.PacketByPacket.{PacketByPacket}
use Rattle.flow.proofs.bench.Opened.{opened}
use Rattle.ftd.specs.Bench.{all_same}
use Rattle.flow.proofs.common.Bools.{and_both, not-both}
use Rattle.flow.proofs.common.Lists.{every-at}
use Rattle.flow.proofs.common.Extends.{Extends, extends-append, none-some, same_some, place-append}
use Rattle.flow.proofs.common.Histories.{of-append}
use Rattle.flow.proofs.common.Transmissions.{place_end}
use Rattle.flow.proofs.ends.SenderLookups.{place-entry, served-entry, published-entry, published-other}
use Rattle.flow.proofs.calls.Serving.{Seated, PublishTests, PublishDone, publish-refused, publish-taken, publish-cases, SendDone}
use Rattle.flow.proofs.calls.Serving.{send-unknown, send-outside, send-drained, send-damaged, send-small}
use Rattle.flow.proofs.calls.Serving.{send-taken, send-cases, some_left, PacketDone, packet-unknown}
use Rattle.flow.proofs.calls.Serving.{packet-outside, packet-drained, packet-damaged, packet-missing, packet-small}
use Rattle.flow.proofs.calls.Serving.{packet-taken, packet-cases}
use Rattle.flow.proofs.packets.Genuine.{BegunIn}
use Rattle.flow.proofs.source.Moves.{published_side, publishes}
use Rattle.flow.proofs.source.Kept.{move-served}
use Rattle.flow.proofs.source.Served.{ServedSide}
use Rattle.flow.proofs.source.Entries.{NextEntry, next-entry, cut-packets}
use Rattle.flow.proofs.source.Goings.{entry-packets}
use Rattle.flow.proofs.source.Sources.{Source, run-source}
use Rattle.flow.proofs.single.Packets.{one-packet, no-packet, publishing-allowed, from_first}
use Rattle.std.specs.Prelude.{Some, None, Ok, Err}
use Rattle.flow.specs.Types.{SendAnswer, message_sent, PacketSent}
use Rattle.flow.proofs.Options.{same-message}

-- ─── What is on the line ───

begins : (w : World) (t : Transmission) → BegunIn w.serving.published t → Begins w t
begins w t g =
    record {
      day = g.day;
      place = g.place;
      message = g.what;
      published = g.placed;
      first = rw g.packets.1 (sym (take-append_seam t.packets g.packets.0));
      one = g.one;
      all = g.all;
      few = g.fewer;
    }

-- ─── Publishing ───

left-seated : (e : Sender) (s : ℕ) → has_left e s ≡ true → Seated e s × ((place_of e s).next ≤ published_of e s)
left-seated e s q =
    let a = and_both (is_served e s && (place_of e s).login) (not (is_none_left e s)) q in
    let b = and_both (is_served e s) (place_of e s).login a.0 in
    (record { served = b.0; login = b.1 }, some_left e s [] [] (not-true _ a.1))

same_at : (t : TradeDate) (a b : ℕ) → t ≡ Some a → t ≡ Some b → a ≡ b
same_at t a b p q = cc

same_next : (n a b : ℕ) → n ≡ suc a → n ≡ suc b → a ≡ b
same_next n a b p q = omega arith

to-come : (v : SenderSide) (h : ServedSide v) (s : ℕ) (r : Seated v.end s)
    (q : (place_of v.end s).next ≤ published_of v.end s)
    → let n = next-entry v.end v.log v.day v.published h s r q in
    to_come v.end s v.log
    ≡ drop (place_of v.end s).piece (packets_of (headed_at s n.date n.place n.message) n.message.content)
to-come v h s r q =
    let n = next-entry v.end v.log v.day v.published h s r q in
    let x = entry_bytes s n.message.tid (place_of v.end s).next n.message.content in
    ap (rest_of v.end s) n.entry ∙ ap (drop (place_of v.end s).piece) (entry-packets v h s x r q n.entry)

-- The message that is next stays the same while more is published.
come-same : (v u : SenderSide) (s : ℕ) (n : NextEntry v.end v.log v.day v.published s)
    (m : NextEntry u.end u.log u.day u.published s) → place_of u.end s ≡ place_of v.end s
    → u.day ≡ v.day → Extends v.published u.published
    → drop (place_of u.end s).piece (packets_of (headed_at s m.date m.place m.message) m.message.content)
    ≡ drop (place_of v.end s).piece (packets_of (headed_at s n.date n.place n.message) n.message.content)
come-same v u s n m same day grown =
    let date : m.date ≡ n.date = same_at u.day m.date n.date m.same-day (day ∙ n.same-day) in
    let at : m.place ≡ n.place =
    same_next (place_of u.end s).next m.place n.place m.number
    (ap (λ (x : Place). x.next) same ∙ n.number) in
    let there : get_elem? (of s n.date u.published) n.place ≡ some n.message =
    rw (grown.1, of-append s n.date v.published grown.0)
    (place-append (of s n.date v.published) _ n.place n.message n.published) in
    let here : get_elem? (of s n.date u.published) n.place ≡ some m.message = rw (date, at) at m.published in
    let what : m.message ≡ n.message =
    same_some (get_elem? (of s n.date u.published) n.place) m.message n.message here there in
    ap (λ (x : Place). drop x.piece (packets_of (headed_at s m.date m.place m.message) m.message.content))
    same
    ∙ ap (λ (d : ℕ). drop (place_of v.end s).piece
    (packets_of (headed_at s d m.place m.message) m.message.content)) date
    ∙ ap (λ (i : ℕ). drop (place_of v.end s).piece
    (packets_of (headed_at s n.date i m.message) m.message.content)) at
    ∙ ap (λ (x : Message). drop (place_of v.end s).piece
    (packets_of (headed_at s n.date n.place x) x.content)) what

more-published : (v : SenderSide) → ServedSide v → (t tid : ℕ) (content : List ℕ)
    → PublishTests v.end t tid content v.log
    → (s : ℕ) → published_of v.end s ≤ published_of (with_entry v.end t (16 + length content)) s
more-published v h t tid content p s = go (eqb s t) refl
  where
    go : (b : Bool) → eqb s t ≡ b → published_of v.end s ≤ published_of (with_entry v.end t (16 + length content)) s
    go true q =
        let k = published-entry v.end t p.served (16 + length content) in rw (eqb-true s t q) (omega arith)
    go false q =
        let k = published-other v.end t p.served (16 + length content) s (eqb-false s t q) in omega arith

publishing : (v : SenderSide) → Source v → (t tid : ℕ) (content : List ℕ) (s : ℕ) → has_left v.end s ≡ true
    → let u = after_publish v t tid content (publish_of v.end t tid content v.log) in
    to_come u.end s u.log ≡ to_come v.end s v.log
publishing v h t tid content s l =
    go (publish_of v.end t tid content v.log) (publish-cases v.end t tid content v.log)
  where
    go : (r : Wrote Sender Published) → PublishDone v.end t tid content v.log r
        → to_come r.end s r.bytes ≡ to_come v.end s v.log
    go r (publish-refused x) = refl
    go r (publish-taken p) =
        let u = published_side v t tid content in
        let k = move-served v u (publishes t tid content p) h.served in
        let a = left-seated v.end s l in
        let same = place-entry v.end t p.served (16 + length content) s in
        let more = more-published v h.served t tid content p s in
        let b : Seated u.end s × ((place_of u.end s).next ≤ published_of u.end s) = (
          record {
            served = served-entry v.end t p.served (16 + length content) s ∙ a.0.served;
            login = ap (λ (x : Place). x.login) same ∙ a.0.login;
          },
          rw same (let i = a.1 in omega arith),
        ) in
        to-come u k s b.0 b.1
        ∙ come-same v u s (next-entry v.end v.log v.day v.published h.served s a.0 a.1)
        (next-entry u.end u.log u.day u.published k s b.0 b.1) same refl
        (extends-append v.published _)
        ∙ sym (to-come v h.served s a.0 a.1)

-- ─── A whole Send ───

module _ (w : World) (h : Source w.serving) (s : ℕ) (out : List ℕ) where
  sent-all : (r : Wrote Sender SendAnswer) → SendDone w.serving.end s w.serving.log out r → (k n : ℕ)
      → r.answer ≡ message_sent k n → AllSent w (serves w (after_send w.serving s r)) s k
  sent-all r (send-unknown a) k n q = absurd (let z : ◌≡◌ {A = ℕ} 0 1 = cc in omega arith)
  sent-all r (send-outside a b) k n q = absurd (let z : ◌≡◌ {A = ℕ} 0 1 = cc in omega arith)
  sent-all r (send-drained a b) k n q = absurd (let z : ◌≡◌ {A = ℕ} 0 1 = cc in omega arith)
  sent-all r (send-damaged a b c) k n q = absurd (let z : ◌≡◌ {A = ℕ} 0 1 = cc in omega arith)
  sent-all r (send-small x a b c d) k n q = absurd (let z : ◌≡◌ {A = ℕ} 0 1 = cc in omega arith)
  sent-all r (send-taken x a b c d) k n q =
      let v = w.serving in
      let e = next-entry v.end v.log v.day v.published h.served s a b in
      let same : (place_of v.end s).next ≡ k = same-message _ _ _ _ q in
      let bytes = send_bytes v.end s x in
      let cut = take-append_seam bytes (drop (length bytes) out) in
      let ended = ended_in s v.transmissions in
      let long : length ended ≡ length v.transmissions =
      length-map v.transmissions (λ (t : Transmission). broken_off (goes_on s t) t) in
      let is : packets_in bytes ≡ packets_of (headed_at s e.date e.place e.message) e.message.content =
      cut-packets v.end s x ∙ entry-packets v h.served s x a b c in
      let at : get_elem? (ended ++ (transmission s (packets_in bytes) whole ∷ [])) (length ended)
      ≡ some (transmission s (packets_in bytes) whole) =
      place_end ended (transmission s (packets_in bytes) whole) in
      record {
        day = e.date;
        place = e.place;
        message = e.message;
        today = e.same-day;
        number = sym same ∙ e.number;
        published = e.published;
        given = rw cut (rw long at at ∙ ap (λ (l : List (List ℕ)). some (transmission s l whole)) is);
      }

-- ─── None left, and the log whole ───

module _ (e : Sender) (s : ℕ) (log out : List ℕ) where
  abbrev Done : Type 0
  Done = Seated e s × (published_of e s < (place_of e s).next)

  drained-then : (r : Wrote Sender SendAnswer) → SendDone e s log out r → r.answer ≡ (Ok None) → Done
  drained-then r (send-unknown a) q = absurd (let z : ◌≡◌ {A = ℕ} 0 1 = cc in omega arith)
  drained-then r (send-outside a b) q = absurd (let z : ◌≡◌ {A = ℕ} 0 1 = cc in omega arith)
  drained-then r (send-drained a b) q = (a, b)
  drained-then r (send-damaged a b c) q = absurd (let z : ◌≡◌ {A = ℕ} 0 1 = cc in omega arith)
  drained-then r (send-small x a b c d) q = absurd (let z : ◌≡◌ {A = ℕ} 0 1 = cc in omega arith)
  drained-then r (send-taken x a b c d) q = absurd (let z : ◌≡◌ {A = ℕ} 0 1 = cc in omega arith)

  drained-if : (r : Wrote Sender SendAnswer) → SendDone e s log out r → Done → r.answer ≡ (Ok None)
  drained-if r (send-unknown a) g = absurd (not-both (is_served e s) g.0.served a)
  drained-if r (send-outside a b) g = absurd (not-both (place_of e s).login g.0.login b)
  drained-if r (send-drained a b) g = refl
  drained-if r (send-damaged a b c) g = absurd (let q = g.1 in omega arith)
  drained-if r (send-small x a b c d) g = absurd (let q = g.1 in omega arith)
  drained-if r (send-taken x a b c d) g = absurd (let q = g.1 in omega arith)

  none_then : (r : Wrote Sender PacketSent) → PacketDone e s log out r → r.answer ≡ (Ok None) → Done
  none_then r (packet-unknown a) q = absurd (let z : ◌≡◌ {A = ℕ} 0 1 = cc in omega arith)
  none_then r (packet-outside a b) q = absurd (let z : ◌≡◌ {A = ℕ} 0 1 = cc in omega arith)
  none_then r (packet-drained a b) q = (a, b)
  none_then r (packet-damaged a b c) q = absurd (let z : ◌≡◌ {A = ℕ} 0 1 = cc in omega arith)
  none_then r (packet-missing x a b c d) q = absurd (let z : ◌≡◌ {A = ℕ} 0 1 = cc in omega arith)
  none_then r (packet-small x a b c d f) q = absurd (let z : ◌≡◌ {A = ℕ} 0 1 = cc in omega arith)
  none_then r (packet-taken x a b c d f) q = absurd (let z : ◌≡◌ {A = ℕ} 0 1 = cc in omega arith)

  none-if : (r : Wrote Sender PacketSent) → PacketDone e s log out r → Done → r.answer ≡ (Ok None)
  none-if r (packet-unknown a) g = absurd (not-both (is_served e s) g.0.served a)
  none-if r (packet-outside a b) g = absurd (not-both (place_of e s).login g.0.login b)
  none-if r (packet-drained a b) g = refl
  none-if r (packet-damaged a b c) g = absurd (let q = g.1 in omega arith)
  none-if r (packet-missing x a b c d) g = absurd (let q = g.1 in omega arith)
  none-if r (packet-small x a b c d f) g = absurd (let q = g.1 in omega arith)
  none-if r (packet-taken x a b c d f) g = absurd (let q = g.1 in omega arith)

none_left : (e : Sender) (s : ℕ) (log out more : List ℕ)
    → ((send_of e s log out).answer ≡ (Ok None)) ↔ ((send_packet_of e s log more).answer ≡ (Ok None))
none_left e s log out more = (
  λ q. none-if e s log more (send_packet_of e s log more) (packet-cases e s log more)
      (drained-then e s log out (send_of e s log out) (send-cases e s log out) q),
  λ q. drained-if e s log out (send_of e s log out) (send-cases e s log out)
      (none_then e s log more (send_packet_of e s log more) (packet-cases e s log more) q),
)

module _ (v : SenderSide) (h : Source v) (s : ℕ) (out : List ℕ) where
  pub packet-damaged-never : (r : Wrote Sender PacketSent) → PacketDone v.end s v.log out r
      → r.answer ≡ Err DamagedLog → ⊥
  packet-damaged-never r (packet-unknown a) q = let z : ◌≡◌ {A = ℕ} 0 1 = cc in omega arith
  packet-damaged-never r (packet-outside a b) q = let z : ◌≡◌ {A = ℕ} 0 1 = cc in omega arith
  packet-damaged-never r (packet-drained a b) q = let z : ◌≡◌ {A = ℕ} 0 1 = cc in omega arith
  packet-damaged-never r (packet-damaged a b c) q =
      let n = next-entry v.end v.log v.day v.published h.served s a b in
      none-some _ (sym c ∙ n.entry)
  packet-damaged-never r (packet-missing x a b c d) q =
      let n = next-entry v.end v.log v.day v.published h.served s a b in
      let f =
      ((h.unfinished.going s a).first n.date n.place n.message n.same-day n.number n.published).1 in
      let g = ap length (entry-packets v h.served s x a b c) in
      omega arith
  packet-damaged-never r (packet-small x a b c d f) q = let z : ◌≡◌ {A = ℕ} 0 1 = cc in omega arith
  packet-damaged-never r (packet-taken x a b c d f) q = let z : ◌≡◌ {A = ℕ} 0 1 = cc in omega arith

-- ─── The example ───

example : T (all_same example_rows)
unfolding opened
example = tt

-- ─── The statement ───

pub packet-by-packet : PacketByPacket
packet-by-packet =
    record {
      packets = λ log buffer es i t q.
          let w = run (start log buffer) es in
          begins w t
          (every-at (BegunIn w.serving.published) w.serving.transmissions i t
          (run-source log buffer es).begun q);
      publishing = λ log buffer es t tid content s q.
          publishing (run (start log buffer) es).serving (run-source log buffer es) t tid content s q;
      one-packet = one-packet;
      no-packet = no-packet;
      allowed = publishing-allowed;
      from_first = from_first;
      anew = λ log buffer es s out k n q.
          let w = run (start log buffer) es in
          sent-all w (run-source log buffer es) s out (send_of w.serving.end s w.serving.log out)
          (send-cases w.serving.end s w.serving.log out) k n q;
      none_left = none_left;
      undamaged = λ log buffer es s out.
          let v = (run (start log buffer) es).serving in
          packet-damaged-never v (run-source log buffer es) s out (send_packet_of v.end s v.log out)
          (packet-cases v.end s v.log out);
      example = example;
    }
