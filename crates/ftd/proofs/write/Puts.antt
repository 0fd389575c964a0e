-- Runs of puts that make up a packet, over plain variables. Assumes nothing.
use Prim.Native.Nat.{ℕ, ◌+◌, ◌%◌, ◌<◌, ◌≤◌}
use mathlib.Core.Path.{◌≡◌, refl, sym, ap, ◌∙◌}
use mathlib.Core.List.{List, [], ◌∷◌, ◌++◌, append_assoc}
use mathlib.Core.Bool.{Bool, true, false, cond, not, ◌&&◌, ◌||◌, false≢true}
use native.Mathlib.Omega.{arith}
use borrow.Author.Tests.{lt-ltb, le-ltb, ltb-true, ltb-false}
use lib.ListN.{length, drop, length-append}
use lib.Dec.{ltb, eqb}
use Rattle.ftd.specs.Bytes.{put, bytes16, bytes32}
use Rattle.ftd.specs.Fields.{field_with}
use Rattle.ftd.specs.Packet.{chain_letter}
use Rattle.ftd.specs.Write.{frame_head, packet_bytes, header_bytes, message_bytes, is_plain, Verdict, fine, refuse}
use Rattle.ftd.specs.Write.{other, written_answer, written_output, fit_verdict}
use Rattle.ftd.specs.declared.refusal.Refusal.{Refusal}
use Rattle.ftd.specs.declared.refusal.Refusal.TheVariants.{TooSmall}
use Rattle.ftd.specs.Tags.{extension_bytes, tag_bytes, tags_for, place_tag}
use Rattle.ftd.specs.Resume.{resume_bytes}
use Rattle.ftd.specs.Types.{Written, Checked}
use Rattle.ftd.specs.declared.packet.Header.{Header}
use Rattle.ftd.proofs.bytes.Put.{length-put, put-put, put-before, put-zero}
use Rattle.std.specs.Prelude.{Some, Ok, Err}
use Rattle.ftd.specs.declared.write.WriteError.TheVariants.{Refused}

-- A put right behind a put is one put of both.
pub then : (l o p : List ℕ) (to at : ℕ) (vs ws : List ℕ) → to ≤ length l → at ≡ to + length vs → o ≡ put l to vs
    → p ≡ put o at ws → p ≡ put l to (vs ++ ws)
then l o p to at vs ws h e a b = rw (b, a, e) (put-put l to vs ws h)

pub frame-put : (l o1 o2 o3 : List ℕ) (to kind ext body : ℕ) → to ≤ length l → ext < 256 → body < 65536
    → o1 ≡ put l to (kind ∷ [])
    → o2 ≡ put o1 (to + 1) (ext % 256 ∷ []) → o3 ≡ put o2 (to + 2) (bytes16 (body % 65536))
    → o3 ≡ put l to (frame_head kind ext body)
frame-put l o1 o2 o3 to kind ext body h small16 small b1 b2 b3 =
    let e : ext % 256 ≡ ext = omega arith in
    let b : body % 65536 ≡ body = omega arith in
    then l o2 o3 to (to + 2) (kind ∷ ext ∷ []) (bytes16 body) h refl
    (then l o1 o2 to (to + 1) (kind ∷ []) (ext ∷ []) h refl b1 (rw e at b2))
    (rw b at b3)

pub header-put : (l o1 o2 o3 o4 o5 o6 o7 : List ℕ) (to : ℕ) (h : Header) (letter size : ℕ) → to ≤ length l
    → size < 65536
    → o1 ≡ put l to (1 ∷ []) → o2 ≡ put o1 (to + 1) (bytes32 h.tid) → letter ≡ chain_letter h.chain
    → o3 ≡ put o2 (to + 5) (letter ∷ [])
    → o4 ≡ put o3 (to + 6) (bytes16 h.series) → o5 ≡ put o4 (to + 8) (bytes32 h.number)
    → o6 ≡ put o5 (to + 12) (bytes16 h.fields)
    → o7 ≡ put o6 (to + 14) (bytes16 (size % 65536)) → o7 ≡ put l to (header_bytes h size)
unfolding header_bytes
header-put l o1 o2 o3 o4 o5 o6 o7 to h letter size room small b1 b2 c b3 b4 b5 b6 b7 =
    let s : size % 65536 ≡ size = omega arith in
    let v2 : List ℕ = 1 ∷ bytes32 h.tid in
    let v3 : List ℕ = v2 ++ (chain_letter h.chain ∷ []) in
    let v4 : List ℕ = v3 ++ bytes16 h.series in
    let v5 : List ℕ = v4 ++ bytes32 h.number in
    let v6 : List ℕ = v5 ++ bytes16 h.fields in
    then l o6 o7 to (to + 14) v6 (bytes16 size) room refl
    (then l o5 o6 to (to + 12) v5 (bytes16 h.fields) room refl
    (then l o4 o5 to (to + 8) v4 (bytes32 h.number) room refl
    (then l o3 o4 to (to + 6) v3 (bytes16 h.series) room refl
    (then l o2 o3 to (to + 5) v2 (chain_letter h.chain ∷ []) room refl
    (then l o1 o2 to (to + 1) (1 ∷ []) (bytes32 h.tid) room refl b1 b2)
    (rw c at b3)) b4) b5) b6) (rw s at b7)

pub packet-put : (l o1 o2 o3 : List ℕ) (to kind : ℕ) (extension body : List ℕ) → to ≤ length l
    → o1 ≡ put l to (frame_head kind (length extension) (length body))
    → o2 ≡ put o1 (to + 4) extension → o3 ≡ put o2 (to + 4 + length extension) body
    → o3 ≡ put l to (packet_bytes kind extension body)
unfolding packet_bytes
packet-put l o1 o2 o3 to kind extension body h b1 b2 b3 =
    let f : List ℕ = frame_head kind (length extension) (length body) in
    ((then l o2 o3 to (to + 4 + length extension) (f ++ extension) body h (rw length-append (omega arith))
    (then l o1 o2 to (to + 4) f extension h refl b1 b2) b3)
    ∙ ap (put l to) (append_assoc f extension body))

pub length-header : (h : Header) (size : ℕ) → length (header_bytes h size) ≡ 16
unfolding header_bytes
length-header h size = refl

-- What stands before and behind an extension, and then the extension between them, is one put of the three.
pub between_put : (l o1 o2 : List ℕ) (to n : ℕ) (f e h : List ℕ) → to + length f + length e ≤ length l
    → n ≡ to + length f
    → o1 ≡ put (put l to f) (n + length e) h → o2 ≡ put o1 n e → o2 ≡ put l to ((f ++ e) ++ h)
between_put l o1 o2 to n f e h room s b1 b2 =
    let kept : length (put l to f) ≡ length l = length-put l to f (omega arith) in
    let low : to ≤ length l = omega arith in
    rw (
      b2,
      b1,
      s,
      put-before (put l to f) (to + length f) (to + length f + length e) e h refl (rw kept room),
      put-put l
          to f (e ++ h) low,
    )
    (ap (put l to) (sym (append_assoc f e h)))

pub message-put : (l o1 o2 o3 : List ℕ) (to : ℕ) (h : Header) (extension content : List ℕ)
    → to + 4 + length extension ≤ length l
    → o1 ≡ put (put l to (frame_head 1 (length extension) (16 + length content))) (to + 4 + length extension)
    (header_bytes h (length content))
    → o2 ≡ put o1 (to + 4) extension → o3 ≡ put o2 (to + 4 + length extension + 16) content
    → o3 ≡ put l to (message_bytes h extension content)
unfolding message_bytes packet_bytes
message-put l o1 o2 o3 to h extension content room b1 b2 b3 =
    let n : List ℕ = header_bytes h (length content) in
    let e : length (n ++ content) ≡ 16 + length content = rw (length-append, length-header) in
    let f : List ℕ = frame_head 1 (length extension) (16 + length content) in
    rw e
    ((then l o2 o3 to (to + 4 + length extension + 16) ((f ++ extension) ++ n) content (omega arith)
    (rw (length-append (f ++ extension) n, length-append f extension, length-header) (omega arith))
    (between_put l o1 o2 to (to + 4) f extension n room refl b1 b2) b3)
    ∙ ap (put l to) (append_assoc (f ++ extension) n content ∙ append_assoc f extension (n ++ content)))

pub length-packet : (kind : ℕ) (extension body : List ℕ)
    → length (packet_bytes kind extension body) ≡ 4 + length extension + length body
unfolding packet_bytes
length-packet kind extension body = rw (length-append extension body) (omega arith)

pub length-message : (h : Header) (extension content : List ℕ)
    → length (message_bytes h extension content) ≡ 4 + length extension + (16 + length content)
unfolding message_bytes
length-message h extension content =
    length-packet 1 extension (header_bytes h (length content) ++ content) ∙ rw (length-append, length-header)

-- ─── What a verdict makes of the answer and the output ───

-- What `room` answers, by whether the output is short.
abbrev pub room_answer : Bool → Checked
room_answer short = cond short (Err TooSmall) (Ok tt)

abbrev refusal_in : Checked → Refusal
refusal_in (Ok t) = TooSmall
refusal_in (Err r) = r

abbrev is_refused : Checked → Bool
is_refused (Ok t) = false
is_refused (Err r) = true

module _ (n there : ℕ) (r : Checked) (q : r ≡ room_answer (ltb there n)) where
  pub short-told : (x : Refusal) → r ≡ Err x → (there < n) × (x ≡ TooSmall)
  short-told x e = go (ltb there n) refl (sym q ∙ e)
    where
      go : (b : Bool) → ltb there n ≡ b → room_answer b ≡ Err x → (there < n) × (x ≡ TooSmall)
      go true h e = (ltb-true there n h, sym (ap refusal_in e))
      go false h e = absurd (false≢true (ap is_refused e))

  pub fits-told : r ≡ Ok tt → n ≤ there
  fits-told e = go (ltb there n) refl (sym q ∙ e)
    where
      go : (b : Bool) → ltb there n ≡ b → room_answer b ≡ Ok tt → n ≤ there
      go true h e = absurd (false≢true (sym (ap is_refused e)))
      go false h e = ltb-false there n h

-- A value that fits may be written.
pub fit-fine : (fits f : Bool) → f ≡ fits → f ≡ true → fit_verdict fits ≡ fine
fit-fine fits f q e = rw (← q, e)

module _ (v : Verdict) (bytes out : List ℕ) where
  pub by-refusal : (r : Refusal) → v ≡ refuse r
      → (Err (Refused r) ≡ written_answer v bytes out) × (out ≡ written_output v bytes out)
  unfolding written_answer written_output
  by-refusal r e = rw e (refl, refl)

  pub by-other : (w : Written) → v ≡ other w → (w ≡ written_answer v bytes out) × (out ≡ written_output v bytes out)
  unfolding written_answer written_output
  by-other w e = rw e (refl, refl)

  module _ (e : v ≡ fine) (n : ℕ) (long : length bytes ≡ n) where
    pub by-room : length out < n → (Err (Refused TooSmall) ≡ written_answer v bytes out) × (out ≡ written_output v bytes out)
    unfolding written_answer written_output
    by-room h = rw (e, long, lt-ltb (length out) n h) (refl, refl)

    pub by-filling : (o : List ℕ) → n ≤ length out → o ≡ bytes ++ drop n out
        → (Ok n ≡ written_answer v bytes out) × (o ≡ written_output v bytes out)
    unfolding written_answer written_output
    by-filling o h p = (rw (e, long, le-ltb (length out) n h), p ∙ rw (e, long, le-ltb (length out) n h))

    pub by-writing : (o : List ℕ) → n ≤ length out → o ≡ put out 0 bytes
        → (Ok n ≡ written_answer v bytes out) × (o ≡ written_output v bytes out)
    by-writing o h p = by-filling o h (p ∙ put-zero out bytes ∙ rw long)

    -- By what `room` answers.
    module _ (r : Checked) (q : r ≡ room_answer (ltb (length out) n)) where
      pub by-short : (x : Refusal) → r ≡ Err x → (w : Written) → w ≡ Err (Refused x)
          → (w ≡ written_answer v bytes out) × (out ≡ written_output v bytes out)
      by-short x f w g =
          let short = short-told n (length out) r q x f in
          let said = by-room short.0 in
          (g ∙ ap (λ (y : Refusal). Err (Refused y)) short.1 ∙ said.0, said.1)

      pub by-fitting : r ≡ Ok tt → (o : List ℕ) → o ≡ put out 0 bytes
          → (Ok n ≡ written_answer v bytes out) × (o ≡ written_output v bytes out)
      by-fitting f o p = by-writing o (fits-told n (length out) r q f) p

-- A body that may be written has a length of two bytes.
pub plain_body : (kind body : ℕ) (plain : Bool) → plain ≡ is_plain kind body → plain ≡ true → body < 65536
unfolding is_plain
plain_body kind body plain e t = go (ltb 65535 body) refl (sym e ∙ t)
  where
    go : (b : Bool) → ltb 65535 body ≡ b → (not b && (not (eqb kind 1) || eqb body 0)) ≡ true → body < 65536
    go true q f = let z : ◌≡◌ {A = ℕ} 0 1 = cc in absurd (omega arith)
    go false q f = omega (arith, ltb-false 65535 body q)

-- The trade date as the only tag.
pub date-put : (l o1 o2 o3 : List ℕ) (to d : ℕ) → to ≤ length l → o1 ≡ put l to (5 ∷ []) → o2 ≡ put o1 (to + 1) (4 ∷ [])
    → o3 ≡ put o2 (to + 2) (bytes32 d)
    → o3 ≡ put l to (extension_bytes (tags_for (Some d)))
date-put l o1 o2 o3 to d h b1 b2 b3 =
    then l o2 o3 to (to + 2) (5 ∷ 4 ∷ []) (bytes32 d) h refl (then l o1 o2 to (to + 1) (5 ∷ []) (4 ∷ []) h refl b1 b2)
    b3

-- The packet's place.
pub place-put : (l o1 o2 o3 : List ℕ) (to j : ℕ) → to + 4 ≤ length l → o1 ≡ put l to (0x70 ∷ [])
    → o2 ≡ put o1 (to + 1) (2 ∷ []) → o3 ≡ put o2 (to + 2) (bytes16 j) → o3 ≡ put l to (tag_bytes (place_tag j))
place-put l o1 o2 o3 to j h b1 b2 b3 =
    then l o2 o3 to (to + 2) (0x70 ∷ 2 ∷ []) (bytes16 j) (omega arith) refl
    (then l o1 o2 to (to + 1) (0x70 ∷ []) (2 ∷ []) (omega arith) refl b1 b2) b3

-- The start field.
pub resume-put : (l o1 o2 o3 o4 : List ℕ) (to series number : ℕ) → to ≤ length l → o1 ≡ put l to (bytes32 4)
    → o2 ≡ put o1 (to + 4) (bytes16 6)
    → o3 ≡ put o2 (to + 6) (bytes16 series) → o4 ≡ put o3 (to + 8) (bytes32 number)
    → o4 ≡ put l to (resume_bytes series number)
resume-put l o1 o2 o3 o4 to series number h b1 b2 b3 b4 =
    then l o3 o4 to (to + 8) (bytes32 4 ++ bytes16 6 ++ bytes16 series) (bytes32 number) h refl
    (then l o2 o3 to (to + 6) (bytes32 4 ++ bytes16 6) (bytes16 series) h refl
    (then l o1 o2 to (to + 4) (bytes32 4) (bytes16 6) h refl b1 b2) b3) b4

-- A field.
pub length-field : (fid : ℕ) (bytes : List ℕ) → length (field_with fid bytes) ≡ 6 + length bytes
unfolding field_with
length-field fid bytes = omega arith

pub field_put : (l o1 o2 o3 : List ℕ) (to fid : ℕ) (bytes : List ℕ) → to ≤ length l → length bytes < 65536
    → o1 ≡ put l to (bytes32 fid)
    → o2 ≡ put o1 (to + 4) (bytes16 (length bytes % 65536)) → o3 ≡ put o2 (to + 6) bytes
    → o3 ≡ put l to (field_with fid bytes)
unfolding field_with
field_put l o1 o2 o3 to fid bytes h small b1 b2 b3 =
    let n : length bytes % 65536 ≡ length bytes = omega arith in
    then l o2 o3 to (to + 6) (bytes32 fid ++ bytes16 (length bytes)) bytes h refl
    (then l o1 o2 to (to + 4) (bytes32 fid) (bytes16 (length bytes)) h refl b1 (rw n at b2)) b3
