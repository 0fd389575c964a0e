-- What is answered for one packet of a message, by its place. Assumes nothing.
use Prim.Native.Nat.{ℕ, ◌+◌, ◌-◌, ◌<◌, ◌≤◌}
use mathlib.Core.Path.{◌≡◌, refl, sym, ◌∙◌}
use mathlib.Core.List.{List, []}
use mathlib.Core.Bool.{true, false}
use borrow.Author.Tests.{lt-ltb, le-ltb}
use lib.ListN.{length, get_or}
use lib.Dec.{eqb}
use Rattle.ftd.specs.Bytes.{put}
use Rattle.ftd.specs.Fields.{shaped}
use Rattle.ftd.specs.Chain.{tags_at, chain_at, packet_for, pieces_of, packets_of, packet_answer, packet_output}
use Rattle.ftd.specs.Chain.Helpers.{FoundPiece, piece_at}
use Rattle.ftd.specs.Tags.{extension_bytes}
use Rattle.ftd.specs.declared.refusal.Refusal.TheVariants.{FieldRun, TooSmall}
use Rattle.ftd.specs.declared.chain.Cut.{Cut}
use Rattle.ftd.specs.declared.chain.Message.{Message}
use Rattle.ftd.proofs.bytes.Put.{put-zero}
use Rattle.ftd.proofs.chain.Pieces.{packet-here, packet-none, packet-size, tags-long}
use Rattle.std.specs.Prelude.{None, Ok, Err}
use Rattle.ftd.specs.Types.{some_piece, PacketAnswer, some_packet}

abbrev Answers : Message → List ℕ → ℕ → List ℕ → PacketAnswer → List ℕ → Type 0
Answers m content i out r o = (r ≡ packet_answer m content i out) × (o ≡ packet_output m content i out)

module _ (m : Message) (content : List ℕ) (i : ℕ) (out : List ℕ) where
  pub answers-broken : shaped content 32768 ≡ false → Answers m content i out (Err FieldRun) out
  unfolding packet_answer packet_output
  answers-broken e = rw e (refl, refl)

  module _ (s : shaped content 32768 ≡ true) where
    pub answers-none : length (pieces_of content) ≤ i → Answers m content i out (Ok None) out
    unfolding packet_answer packet_output
    answers-none h = rw (s, le-ltb i (length (packets_of m content)) (packet-none m content i h)) (refl, refl)

    module _ (at : ℕ) (c : Cut) (f : FoundPiece content i (some_piece at c)) (tags : ℕ)
        (t : tags ≡ length (extension_bytes (tags_at m 0))) where
      size : length (get_or (packets_of m content) i []) ≡ 4 + tags + (16 + (c.end - at))
      size = packet-size m content i at c f.0 f.1 f.2 tags (t ∙ sym (tags-long m i))

      pub answers-large : length out < 4 + tags + (16 + (c.end - at)) → Answers m content i out (Err TooSmall) out
      unfolding packet_answer packet_output
      answers-large h =
          rw (
            s,
            lt-ltb i (length (packets_of m content)) (packet-here m content i at c f.0 f.1 f.2).1,
            size,
            lt-ltb (length out) (4 + tags + (16 + (c.end - at))) h,
          ) (refl, refl)

      pub answers-written : 4 + tags + (16 + (c.end - at)) ≤ length out
          → (o : List ℕ) → o ≡ put out 0 (packet_for m i (chain_at (eqb i 0) (eqb c.end (length content)))
          (piece_at content at c))
          → Answers m content i out (some_packet (4 + tags + (16 + (c.end - at))) (eqb c.end (length content))) o
      unfolding packet_answer packet_output
      answers-written h o e =
          let p = packet-here m content i at c f.0 f.1 f.2 in
          let w : o ≡ put out 0 (get_or (packets_of m content) i []) = rw p.0 e in
          rw (
            s,
            lt-ltb i (length (packets_of m content)) p.1,
            le-ltb (length out) (length (get_or (packets_of m content) i [])) (rw size h),
            p.2,
          ) (rw size, w ∙ put-zero out (get_or (packets_of m content) i []))
