-- The packet and the record at the front of some bytes, and what is missing of them. Assumes nothing.
use Prim.Native.Nat.{ℕ, ◌+◌, ◌-◌, ◌<◌, ◌≤◌}
use mathlib.Core.Path.{◌≡◌, refl, sym}
use mathlib.Core.List.{List}
use mathlib.Core.Bool.{Bool, true, false}
use native.Mathlib.Omega.{arith}
use borrow.Author.Tests.{lt-ltb, le-ltb, le-leb, ltb-true, ltb-false}
use lib.ListN.{length, take, drop, length-drop}
use lib.Dec.{ltb}
use Rattle.ftd.specs.Packet.{extension_length, body_length, said_length, said_in, missing_of}
use Rattle.ftd.specs.Runs.{front}
use Rattle.ftd.specs.Chain.Laws.{packet_form}
use Rattle.ftd.proofs.runs.Laws.{front-inside}
use Rattle.ftd.proofs.runs.Heads.{front-short, front-whole}
use Rattle.flow.proofs.log.Heads.{part_end}

module _ (p : List ℕ) (m : ℕ) (e : m ≡ missing_of p) where
  -- Bytes are missing: none stands there whole.
  packet-none : 0 < m → 0 ≡ front packet_form p
  unfolding missing_of said_length packet_form
  packet-none h = sym (front-short packet_form p (go (ltb (length p) 4) refl))
    where
      go : (b : Bool) → ltb (length p) 4 ≡ b → length p < 4 + (extension_length p + body_length p)
      go true q = omega (arith, ltb-true (length p) 4 q)
      go false q =
          let k = rw (le-ltb (length p) 4 (ltb-false (length p) 4 q)) at e in
          omega (arith, k, h)

  -- None is missing.
  packet-whole : m ≤ 0 → (n : ℕ) → n ≡ said_in p → n ≡ front packet_form p
  unfolding missing_of said_length said_in packet_form
  packet-whole h n s = go (ltb (length p) 4) refl
    where
      go : (b : Bool) → ltb (length p) 4 ≡ b → n ≡ front packet_form p
      go true q =
          let k = rw (lt-ltb (length p) 4 (ltb-true (length p) 4 q)) at e in
          absurd (omega (arith, k, h, ltb-true (length p) 4 q))
      go false q =
          let f = ltb-false (length p) 4 q in
          let k = rw (le-ltb (length p) 4 f) at e in
          let t = rw (le-leb 4 (length p) f) at s in
          let z : 4 + (extension_length p + body_length p) ≤ length p = omega (arith, k, h) in
          rw (front-whole packet_form p z) (omega (arith, t))

-- The same at a place of the bytes, lent from there on.
module _ (s : List ℕ) (at m : ℕ) (e : m ≡ missing_of (take (length s - at) (drop at s))) where
  pub packet-none-at : 0 < m → 0 ≡ front packet_form (drop at s)
  packet-none-at h = packet-none (drop at s) m (rw (part_end at s) at e) h

  module _ (h : m ≤ 0) (n : ℕ) (k : n ≡ said_in (take (length s - at) (drop at s))) where
    pub packet-whole-at : n ≡ front packet_form (drop at s)
    packet-whole-at = packet-whole (drop at s) m (rw (part_end at s) at e) h n (rw (part_end at s) at k)

    pub packet-inside : n ≤ length s - at
    packet-inside = rw (packet-whole-at, ← (length-drop at s)) (front-inside packet_form (drop at s))
