-- The frame of a type and fields, as the reader's tests find it. Assumes nothing.
use Prim.Native.Nat.{ℕ, suc, ◌+◌, ◌-◌, ◌≤◌}
use mathlib.Core.Path.{◌≡◌, ap, ◌∙◌}
use mathlib.Core.List.{List, ◌∷◌, ◌++◌, append_assoc}
use mathlib.Core.Bool.{true}
use native.Mathlib.Omega.{arith}
use borrow.Author.Tests.{le-ltb, ne_eqb}
use lib.ListN.{length, take, drop, length-append}
use lib.Seq.{take_at, drop_at, drop-drop, drop-append-add, take-append_seam}
use Rattle.ftd.specs.Bytes.{part}
use Rattle.ftd.specs.Packet.{span}
use Rattle.fix.specs.Text.{soh, until, stands_at, sum_of, length_text}
use Rattle.fix.specs.Fields.{is_whole}
use Rattle.fix.specs.Frame.{begin_text, type_text, body_length, body_bytes, summed, trailer, frame_bytes}
use Rattle.fix.specs.Frame.{type_at, body_at, length_at, outline_of, frame_of}
use Rattle.fix.proofs.frame.Puts.{length-trailer, length-summed}
use Rattle.fix.proofs.frame.Words.{begins-own, begins-same, until-seam, digits-plain}
use Rattle.fix.proofs.frame.Outlines.{name-there, fields-there}
use Rattle.fix.specs.Types.{some_frame}

-- The frame as one run of its parts.
module _ (name run : List ℕ) where
  abbrev pub digits_of : List ℕ
  digits_of = length_text (body_length name run)

  abbrev pub closing : List ℕ
  closing = trailer (sum_of (summed name run))

  abbrev pub behind_type : List ℕ
  behind_type = name ++ (soh ∷ (run ++ closing))

  pub laid : frame_bytes name run ≡ begin_text ++ (digits_of ++ (type_text ++ behind_type))
  unfolding frame_bytes summed body_bytes
  laid =
      ap (λ (y : List ℕ). begin_text ++ y) (append_assoc digits_of (type_text ++ (name ++ (soh ∷ run))) closing)
      ∙ ap (λ (y : List ℕ). begin_text ++ (digits_of ++ (type_text ++ y))) (append_assoc name (soh ∷ run) closing)

  pub length-frame : length (frame_bytes name run) ≡ 20 + length digits_of + body_length name run
  unfolding frame_bytes
  length-frame =
      length-append (summed name run) closing
      ∙ rw (length-summed name run, length-trailer (sum_of (summed name run))) (omega arith)

  pub laid-type : drop (16 + length digits_of) (frame_bytes name run) ≡ behind_type
  laid-type =
      let e : 16 + length digits_of ≡ 12 + (length digits_of + 4) = omega arith in
      rw (e, ← drop-drop (length digits_of + 4) 12 (frame_bytes name run), laid)
      (drop-append-add digits_of (type_text ++ behind_type) 4)

-- The reader's tests, over bytes of which this is known.
module _ (b name run : List ℕ) (same : b ≡ frame_bytes name run) (n : ℕ) (digit : n ≡ length (digits_of name run))
    (size : ℕ) (sized : size ≡ body_length name run) where
  counted : length b ≡ 20 + n + size
  counted = rw (same, length-frame name run, digit, sized)

  begin : stands_at b 0 begin_text ≡ true
  unfolding stands_at
  begin = rw (same, laid name run)

  digits-found : until soh (drop 12 b) ≡ n
  digits-found =
      rw (same, laid name run, digit)
      (until-seam soh (digits_of name run) (51 ∷ 53 ∷ 61 ∷ behind_type name run) (digits-plain (body_length name run)))

  length_found : stands_at b 12 (length_text size ++ type_text) ≡ true
  unfolding stands_at
  length_found =
      rw (same, laid name run, sized, ← append_assoc (digits_of name run) type_text (behind_type name run))
      (begins-own (digits_of name run ++ type_text) (behind_type name run))

  trailer-found : stands_at b (13 + n + size) (trailer (sum_of (take (13 + n + size) b))) ≡ true
  unfolding stands_at frame_bytes
  trailer-found =
      let e : length (summed name run) ≡ 13 + n + size = rw (length-summed name run, digit, sized) in
      rw (
        same,
        take_at (summed name run) (closing name run) (13 + n + size) e,
        drop_at (summed name run) (closing name run) (13 + n + size) e,
      )
      (begins-same (closing name run))

  type-found : until soh name ≡ length name → until soh (drop (16 + n) b) ≡ length name
  type-found plain =
      rw (same, digit, laid-type name run) (until-seam soh name (run ++ closing name run) plain)

  pub name-part : part b (13 + n + 3) (length name) ≡ name
  name-part =
      name-there b n (length name)
      ∙ rw (same, digit, laid-type name run) (take-append_seam name (soh ∷ (run ++ closing name run)))

  pub fields-part : part b (13 + n + 4 + length name) (size - (4 + length name)) ≡ run
  unfolding body_length
  fields-part =
      let e : size - (4 + length name) ≡ length run = omega (arith, sized) in
      let d : drop (suc (length name)) (behind_type name run) ≡ run ++ closing name run =
      (let k : suc (length name) ≡ length name + 1 = omega arith in
      rw k (drop-append-add name (soh ∷ (run ++ closing name run)) 1)) in
      fields-there b n (length name) (size - (4 + length name))
      ∙ rw (e, same, digit, laid-type name run, d) (take-append_seam run (closing name run))

  pub outline-found : length b ≤ 4096 → (length name ≡ 0 → ⊥) → until soh name ≡ length name
      → outline_of b
      ≡ some_frame (span (13 + n + 3) (length name)) (span (13 + n + 4 + length name) (size - (4 + length name)))
  unfolding outline_of length_at body_at type_at body_length
  outline-found most some plain =
      let s : length b - (20 + n) ≡ size = omega (arith, counted) in
      rw (
        le-ltb 4096 (length b) most,
        begin,
        digits-found,
        le-ltb (length b) (24 + n) (omega (arith, counted, sized)),
        s,
        length_found,
        trailer-found,
        type-found plain,
        ne_eqb (length name) 0 some,
        le-ltb size (4 + length name) (omega (arith, sized)),
      )

  pub frame_found : length b ≤ 4096 → (length name ≡ 0 → ⊥) → until soh name ≡ length name → is_whole run ≡ true
      → frame_of b
      ≡ some_frame (span (13 + n + 3) (length name)) (span (13 + n + 4 + length name) (size - (4 + length name)))
  unfolding frame_of
  frame_found most some plain cut = rw (outline-found most some plain, fields-part, cut)
