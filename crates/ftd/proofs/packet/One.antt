-- What is one packet, and what a message packet, by the first four bytes. A written packet is one packet: as long as
-- its first four bytes say. One with content of at most 4,080 bytes is a message packet. Assumes nothing.
use Prim.Native.Nat.{ℕ, ◌+◌, ◌≤◌}
use mathlib.Core.Path.{◌≡◌, refl, ap, ◌∙◌}
use mathlib.Core.List.{List, ◌++◌}
use mathlib.Core.Bool.{false}
use native.Mathlib.Omega.{arith}
use borrow.Author.Tests.{le-ltb, le-leb, eq-eqb}
use lib.ListN.{length, length-append}
use Rattle.ftd.specs.Bytes.{be16_of}
use Rattle.ftd.specs.Packet.{kind_of, body_length, said_length, not_one_packet, no_message_packet}
use Rattle.ftd.specs.Write.{packet_bytes, header_bytes, message_bytes}
use Rattle.ftd.specs.declared.packet.Header.{Header}
use Rattle.ftd.proofs.write.Puts.{length-packet, length-header}

-- ─── A written packet ───

module _ (kind : ℕ) (extension body : List ℕ) where
  pub kind-said : kind_of (packet_bytes kind extension body) ≡ kind
  unfolding packet_bytes
  kind-said = refl

  pub body-said : body_length (packet_bytes kind extension body) ≡ length body
  unfolding packet_bytes be16_of
  body-said = omega arith

  pub packet-said : said_length (packet_bytes kind extension body) ≡ length (packet_bytes kind extension body)
  unfolding said_length packet_bytes
  packet-said =
      let b = body-said in
      let n = length-packet kind extension body in
      omega arith

pub one-packet : (kind : ℕ) (extension body : List ℕ) → not_one_packet (packet_bytes kind extension body) ≡ false
unfolding not_one_packet
one-packet kind extension body =
    let n = length-packet kind extension body in
    rw (
      le-ltb (length (packet_bytes kind extension body)) 4 (omega arith),
      packet-said kind extension body,
      eq-eqb (length (packet_bytes kind extension body)) (length (packet_bytes kind extension body)) refl,
    )

module _ (h : Header) (extension content : List ℕ) where
  pub one_written : not_one_packet (message_bytes h extension content) ≡ false
  unfolding message_bytes
  one_written = one-packet 1 extension (header_bytes h (length content) ++ content)

  pub one-message : length content ≤ 4080 → no_message_packet (message_bytes h extension content) ≡ false
  unfolding no_message_packet message_bytes
  one-message small =
      let body = header_bytes h (length content) ++ content in
      let n : length body ≡ 16 + length content =
      length-append (header_bytes h (length content)) content
      ∙ ap (λ (k : ℕ). k + length content) (length-header h (length content)) in
      rw (
        kind-said 1 extension body,
        body-said 1 extension body,
        n,
        le-leb 16 (16 + length content) (omega arith),
        le-leb (16 + length content) 4096 (omega arith),
      )
