-- What the writer answers, by what its tests gave, over plain variables. Assumes nothing.
use Prim.Native.Nat.{ℕ, ◌+◌, ◌/◌, ◌<◌, ◌≤◌}
use mathlib.Core.Path.{◌≡◌, refl, sym, ap, ◌∙◌}
use mathlib.Core.List.{List, [], ◌∷◌}
use mathlib.Core.Bool.{Bool, true, false, cond}
use native.Mathlib.Omega.{arith}
use borrow.Author.Tests.{lt-ltb, le-ltb}
use lib.ListN.{length, length-append}
use lib.Dec.{ltb}
use Rattle.ftd.specs.Bytes.{put}
use Rattle.ftd.proofs.bytes.Put.{put-zero}
use Rattle.ftd.specs.declared.refusal.Refusal.{Refusal}
use Rattle.ftd.specs.declared.refusal.Refusal.TheVariants.{NotOneFrame, RequiredTag, TooSmall}
use Rattle.fix.specs.declared.kinds.Kind.{Kind}
use Rattle.fix.specs.declared.tally.Walked.{Walked}
use Rattle.fix.specs.Text.{letter, length_text, sum_of}
use Rattle.fix.specs.Kinds.{kind_of}
use Rattle.fix.specs.Fields.{fields_of, is_whole}
use Rattle.fix.specs.Check.{wrong_numbers, wrong_tags}
use Rattle.fix.specs.Frame.{is_name, is_framed, body_length, summed, trailer, frame_bytes}
use Rattle.fix.specs.Tally.{no_tally, tallied_from, walked_of, numbers_wrong, tags_wrong}
use Rattle.fix.specs.Write.{write_answer, write_output}
use Rattle.fix.proofs.frame.Puts.{length-summed, length-trailer}
use Rattle.fix.proofs.tally.Links.{links-numbers, links-tags}
use Rattle.std.specs.Prelude.{Ok, Err}
use Rattle.ftd.specs.declared.write.WriteError.TheVariants.{Refused}

-- ─── Lengths ───

pub length-frame : (name run : List ℕ)
    → length (frame_bytes name run) ≡ 20 + length (length_text (body_length name run)) + body_length name run
unfolding frame_bytes
length-frame name run =
    let e = length-summed name run in
    rw (length-append (summed name run) (trailer (sum_of (summed name run))), length-trailer (sum_of (summed name run)))
    (omega (arith, e))

few : (a b c : Bool) (p q r s : List ℕ) → length p ≤ 4 → length q ≤ 4 → length r ≤ 4 → length s ≤ 4
    → length (cond a p (cond b q (cond c r s))) ≤ 4
few true b c p q r s h i j k = h
few false true c p q r s h i j k = i
few false false true p q r s h i j k = j
few false false false p q r s h i j k = k

few-digits : (n : ℕ) → length (length_text n) ≤ 4
unfolding length_text
few-digits n =
    few (ltb n 10) (ltb n 100) (ltb n 1000) (letter n ∷ []) (letter (n / 10) ∷ letter n ∷ [])
    (letter (n / 100) ∷ letter (n / 10) ∷ letter n ∷ [])
    (letter (n / 1000) ∷ letter (n / 100) ∷ letter (n / 10) ∷ letter n ∷ []) (omega arith) (omega arith) (omega arith)
    (omega arith)

four-digits : (n : ℕ) → 1000 ≤ n → length (length_text n) ≡ 4
unfolding length_text
four-digits n h = rw (le-ltb n 10 (omega arith), le-ltb n 100 (omega arith), le-ltb n 1000 h)

-- ─── The output ───

pub kept : (name run out : List ℕ) (r : Refusal) → Err (Refused r) ≡ write_answer name run (length out)
    → out ≡ write_output name run out
unfolding write_output
kept name run out r e = rw (← e)

pub put-out : (name run out after : List ℕ) (n : ℕ) → Ok n ≡ write_answer name run (length out)
    → n ≡ length (frame_bytes name run) → after ≡ put out 0 (frame_bytes name run) → after ≡ write_output name run out
unfolding write_output
put-out name run out after n e f p = rw (← e, f) (p ∙ put-zero out (frame_bytes name run))

module _ (name run : List ℕ) where
  frame-long : 4072 < body_length name run → ltb 4096 (length (frame_bytes name run)) ≡ true
  frame-long h =
      let e = length-frame name run in
      let f = four-digits (body_length name run) (omega arith) in
      lt-ltb 4096 (length (frame_bytes name run)) (omega (arith, e, f))

  frame-short : body_length name run ≤ 4072 → ltb 4096 (length (frame_bytes name run)) ≡ false
  frame-short h =
      let e = length-frame name run in
      let f = few-digits (body_length name run) in
      le-ltb 4096 (length (frame_bytes name run)) (omega (arith, e, f))

  -- ─── 28: no frame ───

  unframed : (room : ℕ) → is_framed name run ≡ false → Err (Refused NotOneFrame) ≡ write_answer name run room
  unfolding write_answer
  unframed room e = rw e

  pub no_name : (room : ℕ) (x : Bool) → x ≡ is_name name → x ≡ false → Err (Refused NotOneFrame) ≡ write_answer name run room
  unfolding is_framed
  no_name room x e f = unframed room (framed-false (sym e ∙ f))
    where
      framed-false : is_name name ≡ false → is_framed name run ≡ false
      framed-false g = rw g

  pub too_long : (room : ℕ) → 4072 < body_length name run → Err (Refused NotOneFrame) ≡ write_answer name run room
  unfolding is_framed
  too_long room h = unframed room (framed-false (is_name name) (is_whole run) refl refl)
    where
      framed-false : (x y : Bool) → is_name name ≡ x → is_whole run ≡ y → is_framed name run ≡ false
      framed-false true true e f = rw (e, f, frame-long h)
      framed-false true false e f = rw (e, f)
      framed-false false y e f = rw e

  pub long-name : (room : ℕ) → 4072 < length name → Err (Refused NotOneFrame) ≡ write_answer name run room
  unfolding body_length
  long-name room h = too_long room (omega arith)

  pub long-run : (room : ℕ) → 4072 < length run → Err (Refused NotOneFrame) ≡ write_answer name run room
  unfolding body_length
  long-run room h = too_long room (omega arith)

  pub long-body : (room size : ℕ) → size ≡ 4 + length name + length run → 4072 < size
      → Err (Refused NotOneFrame) ≡ write_answer name run room
  unfolding body_length
  long-body room size e h = too_long room (omega (arith, e))

  module _ (k : Kind) (ek : k ≡ kind_of name) (w : Walked) (ew : w ≡ walked_of k run) where
    whole_is : w.whole ≡ is_whole run
    unfolding walked_of is_whole
    whole_is = ap (λ (v : Walked). v.whole) ew

    tally-is : w.tally ≡ tallied_from (kind_of name) no_tally (fields_of run)
    unfolding walked_of
    tally-is = ap (λ (v : Walked). v.tally) ew ∙ ap (λ (j : Kind). tallied_from j no_tally (fields_of run)) ek

    pub not-whole : (room : ℕ) → w.whole ≡ false → Err (Refused NotOneFrame) ≡ write_answer name run room
    unfolding is_framed
    not-whole room f = unframed room (framed-false (is_name name) refl (sym whole_is ∙ f))
      where
        framed-false : (x : Bool) → is_name name ≡ x → is_whole run ≡ false → is_framed name run ≡ false
        framed-false true e g = rw (e, g)
        framed-false false e g = rw e

    module _ (x : Bool) (ex : x ≡ is_name name) (fx : x ≡ true) (fw : w.whole ≡ true) (size : ℕ)
        (es : size ≡ 4 + length name + length run) (h : size ≤ 4072) where
      is_framed-here : is_framed name run ≡ true
      unfolding is_framed body_length
      is_framed-here = rw (← ex, fx, ← whole_is, fw, frame-short (omega (arith, es)))

      numbers-is : (y : Bool) → y ≡ numbers_wrong k w.tally → y ≡ wrong_numbers (kind_of name) (fields_of run)
      numbers-is y e =
          e ∙ rw (ek, tally-is) (links-numbers (kind_of name) (fields_of run))

      tags-is : (y : Bool) → y ≡ tags_wrong k w.tally → y ≡ wrong_tags (kind_of name) (fields_of run)
      tags-is y e = e ∙ rw (ek, tally-is) (links-tags (kind_of name) (fields_of run))

      size_is : (n : ℕ) → n ≡ length (length_text size) → length (frame_bytes name run) ≡ 20 + n + size
      unfolding body_length
      size_is n e = rw (e, es) (length-frame name run)

      module _ (y : Bool) (ey : y ≡ numbers_wrong k w.tally) where
        pub odd-numbers : (room : ℕ) → y ≡ true → Err (Refused NotOneFrame) ≡ write_answer name run room
        unfolding write_answer
        odd-numbers room f = rw (is_framed-here, ← numbers-is y ey, f)

        module _ (fy : y ≡ false) (n : ℕ) (en : n ≡ length (length_text size)) (all : ℕ) (ea : all ≡ 20 + n + size) where
          pub no_room : (room : ℕ) → room < all → Err (Refused TooSmall) ≡ write_answer name run room
          unfolding write_answer
          no_room room r =
              rw (is_framed-here, ← numbers-is y ey, fy, size_is n en, ← ea, lt-ltb room all r)

          module _ (room : ℕ) (r : all ≤ room) (z : Bool) (ez : z ≡ tags_wrong k w.tally) where
            pub odd-tags : z ≡ true → Err (Refused RequiredTag) ≡ write_answer name run room
            unfolding write_answer
            odd-tags f =
                rw (is_framed-here, ← numbers-is y ey, fy, size_is n en, ← ea, le-ltb room all r, ← tags-is z ez, f)

            pub all_right : z ≡ false → Ok all ≡ write_answer name run room
            unfolding write_answer
            all_right f =
                rw (is_framed-here, ← numbers-is y ey, fy, size_is n en, ← ea, le-ltb room all r, ← tags-is z ez, f)

            pub all-put : z ≡ false → (out after : List ℕ) → room ≡ length out → after ≡ put out 0 (frame_bytes name run)
                → after ≡ write_output name run out
            all-put f out after e p =
                put-out name run out after all (rw e at (all_right f)) (ea ∙ sym (size_is n en)) p
