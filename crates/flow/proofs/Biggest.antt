-- The biggest message there is. Assumes nothing.
use Prim.Native.Nat.{ℕ, ◌+◌, ◌*◌, ◌≤◌, ◌<◌}
use native.Mathlib.Omega.{arith}
use mathlib.Core.Path.{◌≡◌, refl}
use mathlib.Core.List.{List, [], ◌∷◌, ◌++◌}
use mathlib.Core.Bool.{Bool, true, false, cond}
use mathlib.Core.Option.{Option, none, some}
use borrow.Author.Tests.{not-false}
use lib.ListN.{length, get_or}
use lib.Dec.{T, eqb}
use Rattle.ftd.specs.Bytes.{joined}
use Rattle.ftd.specs.Tags.{tags_for, place_tag, extension_bytes}
use Rattle.ftd.specs.Fields.{shaped, most_content}
use Rattle.ftd.specs.Chain.{packets_of, pieces_of, overhead_of, overhead, most_packets, most_packet, most_output}
use Rattle.ftd.specs.Refusal.{number_of}
use Rattle.ftd.specs.declared.chain.Message.{Message}
use Rattle.ftd.specs.declared.refusal.Refusal.TheVariants.{TooSmall}
use Rattle.ftd.specs.Types.{TradeDate}
use Rattle.ftd.proofs.chain.Laws.{chain_laws}
use Rattle.ftd.proofs.chain.Pieces.{shaped-facts}
use Rattle.flow.specs.declared.sender.Sender.{Sender}
use Rattle.flow.specs.Types.{Published}
use Rattle.flow.specs.Ends.{Wrote as Leaves, place_of}
use Rattle.flow.specs.Log.{entry_content, entry_series, strange_series, nonzero, misnumbered, misshapen, is_wanted}
use Rattle.flow.specs.Log.{log_short, entries_of, walk, entry_of}
use Rattle.flow.specs.Serving.{publish_of, send_packets, send_bytes, send_of, next_packet, send_packet_of}
use Rattle.flow.specs.Biggest.{biggest_content, reaches, Biggest}
use Rattle.flow.proofs.common.Rows.{by-when}
use Rattle.flow.proofs.calls.Serving.{PublishDone, publish-refused, publish-taken, publish-cases, SendDone}
use Rattle.flow.proofs.calls.Serving.{send-unknown, send-outside, send-drained, send-damaged, send-small}
use Rattle.flow.proofs.calls.Serving.{send-taken, send-cases, PacketDone, packet-unknown, packet-outside}
use Rattle.flow.proofs.calls.Serving.{packet-drained, packet-damaged, packet-missing, packet-small, packet-taken}
use Rattle.flow.proofs.calls.Serving.{packet-cases}
use Rattle.flow.proofs.bench.Opened.{opened}
use Rattle.std.specs.Prelude.{Some, None, Ok, Err}
use Rattle.flow.specs.Types.{SendAnswer, PacketSent}

-- ─── What a content of right shape takes ───

module _ (m : Message) (content : List ℕ) (s : shaped content most_content ≡ true) where
  short : length content ≤ most_content
  short = (shaped-facts content most_content (shaped content most_content) refl s).0

  few : length (packets_of m content) ≤ most_packets
  few = rw (chain_laws.as_many m content).0 (chain_laws.few content short)

  small : (i : ℕ) → i < length (packets_of m content) → length (get_or (packets_of m content) i []) ≤ most_packet
  small i h =
      let k : i < length (pieces_of content) = rw (chain_laws.as_many m content).0 at h in
      omega (
        arith,
        chain_laws.packet-takes m content i h,
        chain_laws.around m,
        (chain_laws.piece-whole content most_content i s k
            ).0,
      )

  all_fit : length (joined (packets_of m content)) ≤ most_output
  unfolding overhead_of overhead
  all_fit = go m.date m.counted (chain_laws.takes m content most_content s)
    where
      go : (d : TradeDate) (b : Bool)
          → length (joined (packets_of m content))
          ≡ length content + length (packets_of m content)
          * (4 + length (extension_bytes (tags_for d ++ cond b (place_tag 0 ∷ []) [])) + 16)
          → length (joined (packets_of m content)) ≤ most_output
      go None true h = omega (arith, h, few, short)
      go None false h = omega (arith, h, few, short)
      go (Some d) true h = omega (arith, h, few, short)
      go (Some d) false h = omega (arith, h, few, short)

-- ─── Content that Publish takes ───

abbrev IsTaken : Published → Type 0
IsTaken (Ok k) = Unit {0}
IsTaken (Err r) = ⊥

module _ (e : Sender) (s t : ℕ) (content log : List ℕ) where
  shape_of : (r : Leaves Sender Published) → PublishDone e s t content log r → IsTaken r.answer
      → shaped content most_content ≡ true
  shape_of _ (publish-refused r) h = absurd h
  shape_of _ (publish-taken tests) h = tests.run

  taken-shaped : (k : ℕ) → (publish_of e s t content log).answer ≡ Ok k → shaped content most_content ≡ true
  taken-shaped k h = shape_of (publish_of e s t content log) (publish-cases e s t content log) (rw h tt)

-- ─── What Send finds in the log has the right shape ───

abbrev IsShaped : Option (List ℕ) → Type 0
IsShaped none = Unit {0}
IsShaped (some x) = shaped (entry_content x) most_content ≡ true

module _ (e : Sender) (s k : ℕ) where
  walk-shaped : (earlier : List ℕ) (xs : List (List ℕ)) → IsShaped (walk e s k earlier xs)
  walk-shaped earlier [] = tt
  walk-shaped earlier (x ∷ xs) =
      by-when IsShaped (strange_series e x) (λ q. tt) λ q1.
      by-when IsShaped (nonzero x) (λ q. tt) λ q2.
      by-when IsShaped (misnumbered earlier x) (λ q. tt) λ q3.
      by-when IsShaped (misshapen x) (λ q. tt) λ q4.
      by-when IsShaped (is_wanted s k x) (λ q. not-false _ q4) λ q5.
      walk-shaped (entry_series x ∷ earlier) xs

  found-shaped : (log x : List ℕ) → entry_of e log s k ≡ some x → shaped (entry_content x) most_content ≡ true
  unfolding entry_of
  found-shaped log x h =
      let all : IsShaped (entry_of e log s k) =
      by-when IsShaped (log_short e log) (λ q. tt) λ q. walk-shaped [] (entries_of e log) in
      rw h at all

-- ─── An output of the most bytes is never too small ───

abbrev IsSmall : SendAnswer → Type 0
IsSmall (Ok None) = ⊥
IsSmall (Ok (Some found)) = ⊥
IsSmall (Err r) = T (eqb (number_of r) 18)

module _ (e : Sender) (s : ℕ) (log out : List ℕ) (room : most_output ≤ length out) where
  entry-fits : (x : List ℕ) → entry_of e log s (place_of e s).next ≡ some x → length (send_bytes e s x) ≤ most_output
  unfolding send_bytes
  entry-fits x h = all_fit _ (entry_content x) (found-shaped e s (place_of e s).next log x h)

  not-small : (r : Leaves Sender SendAnswer) → SendDone e s log out r → IsSmall r.answer → ⊥
  not-small _ (send-unknown a) h = h
  not-small _ (send-outside a b) h = h
  not-small _ (send-drained a b) h = h
  not-small _ (send-damaged a b c) h = h
  not-small _ (send-small x a b c d) h = omega (arith, d, entry-fits x c, room)
  not-small _ (send-taken x a b c d) h = h

  enough : (send_of e s log out).answer ≡ Err TooSmall → ⊥
  enough h = not-small (send_of e s log out) (send-cases e s log out) (rw h tt)

-- ─── Nor one of the most bytes of a packet, for one packet ───

abbrev IsSmallPacket : PacketSent → Type 0
IsSmallPacket (Ok None) = ⊥
IsSmallPacket (Ok (Some found)) = ⊥
IsSmallPacket (Err r) = T (eqb (number_of r) 18)

module _ (e : Sender) (s : ℕ) (log out : List ℕ) (room : most_packet ≤ length out) where
  packet-fits : (x : List ℕ) → entry_of e log s (place_of e s).next ≡ some x
      → (place_of e s).piece < length (send_packets e s x) → length (next_packet e s x) ≤ most_packet
  unfolding next_packet
  packet-fits x h l = small _ (entry_content x) (found-shaped e s (place_of e s).next log x h) (place_of e s).piece l

  packet-not-small : (r : Leaves Sender PacketSent) → PacketDone e s log out r → IsSmallPacket r.answer → ⊥
  packet-not-small _ (packet-unknown a) h = h
  packet-not-small _ (packet-outside a b) h = h
  packet-not-small _ (packet-drained a b) h = h
  packet-not-small _ (packet-damaged a b c) h = h
  packet-not-small _ (packet-missing x a b c d) h = h
  packet-not-small _ (packet-small x a b c d f) h = omega (arith, f, packet-fits x c d, room)
  packet-not-small _ (packet-taken x a b c d f) h = h

  enough-packet : (send_packet_of e s log out).answer ≡ Err TooSmall → ⊥
  enough-packet h = packet-not-small (send_packet_of e s log out) (packet-cases e s log out) (rw h tt)

-- ─── All of it ───

reached : T (reaches 17 33278)
unfolding opened biggest_content
reached = tt

in-numbers : (most_packets ≡ 17) × (most_packet ≡ 4110) × (most_output ≡ 33278)
unfolding overhead overhead_of
in-numbers = (refl, refl, refl)

pub biggest : Biggest
biggest =
    record {
      in-numbers = in-numbers;
      packets = λ e s t content log k h m. few m content (taken-shaped e s t content log k h);
      packet = λ e s t content log k h m. small m content (taken-shaped e s t content log k h);
      bytes = λ e s t content log k h m. all_fit m content (taken-shaped e s t content log k h);
      reached = reached;
      enough = enough;
      enough-packet = enough-packet;
    }
