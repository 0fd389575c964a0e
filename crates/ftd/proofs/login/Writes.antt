-- What the writer of a login packet decides and puts, over plain variables. Assumes nothing.
use Prim.Native.Nat.{ℕ, ◌+◌, ◌-◌, ◌%◌, ◌<◌, ◌≤◌}
use mathlib.Core.Path.{◌≡◌, refl, sym, ap, ◌∙◌}
use mathlib.Core.List.{List, [], ◌∷◌, ◌++◌, append_assoc, append-nil}
use mathlib.Core.Bool.{Bool, true, false, cond}
use native.Mathlib.Omega.{arith}
use borrow.Author.Tests.{le-leb, lt-leb}
use lib.ListN.{length, drop, length-append}
use Rattle.ftd.specs.Bytes.{put}
use Rattle.ftd.specs.Runs.{Run, run_of, ended}
use Rattle.ftd.specs.Fields.{field, fields_of, shaped}
use Rattle.ftd.specs.Write.{frame_head, packet_bytes, header_bytes, message_bytes, fine, refuse}
use Rattle.ftd.specs.Chain.{Piece}
use Rattle.ftd.specs.Chain.Helpers.{others_of, piece_at, NextPiece}
use Rattle.ftd.specs.Tags.{tags_for, extension_bytes}
use Rattle.ftd.specs.Resume.{resume_bytes}
use Rattle.ftd.specs.Login.{login_tid, login_header, login_bytes, ending_bytes, login_verdict}
use Rattle.ftd.specs.declared.refusal.Refusal.TheVariants.{FieldRun}
use Rattle.ftd.specs.Types.{TradeDate}
use Rattle.ftd.specs.declared.packet.Chain.TheVariants.{Single}
use Rattle.ftd.specs.declared.packet.Header.{Header}
use Rattle.ftd.specs.declared.chain.Cut.{Cut}
use Rattle.ftd.proofs.write.Puts.{then, between_put, length-header, length-message}
use Rattle.ftd.proofs.chain.Pieces.{piece-length, whole-last, shaped-facts}
use Rattle.ftd.proofs.chain.Singles.{shaped-ended, one_piece}
use Rattle.ftd.proofs.resume.Behind.{behind}
use Rattle.std.specs.Prelude.{Some, None, is_some}
use Rattle.ftd.specs.Types.{MaybeEnding, some_start}

-- ─── The bytes ───

regroup : (f x n c e : List ℕ) → (((f ++ x) ++ n) ++ c) ++ e ≡ f ++ (x ++ (n ++ (c ++ e)))
regroup f x n c e = simp append_assoc

-- A message whose content is put in two parts.
parts-put : (l o1 o2 o3 o4 : List ℕ) (to : ℕ) (h : Header) (extension content more : List ℕ)
    → to + 4 + length extension ≤ length l
    → o1 ≡ put (put l to (frame_head 1 (length extension) (16 + (length content + length more))))
    (to + 4 + length extension)
    (header_bytes h (length content + length more))
    → o2 ≡ put o1 (to + 4) extension → o3 ≡ put o2 (to + 4 + length extension + 16) content
    → o4 ≡ put o3 (to + 4 + length extension + 16 + length content) more
    → o4 ≡ put l to (message_bytes h extension (content ++ more))
unfolding message_bytes packet_bytes
parts-put l o1 o2 o3 o4 to h extension content more room b1 b2 b3 b4 =
    let s : length (content ++ more) ≡ length content + length more = length-append content more in
    let n : List ℕ = header_bytes h (length content + length more) in
    let e : length (n ++ (content ++ more)) ≡ 16 + (length content + length more) =
    rw (length-append n (content ++ more), length-header, s) in
    let f : List ℕ = frame_head 1 (length extension) (16 + (length content + length more)) in
    rw (s, e)
    ((then l o3 o4 to (to + 4 + length extension + 16 + length content) (((f ++ extension) ++ n) ++ content) more
    (omega arith)
    (rw (
      length-append ((f ++ extension) ++ n) content,
      length-append (f ++ extension) n,
      length-append f extension,
      length-header,
    ) (omega arith))
    (then l o2 o3 to (to + 4 + length extension + 16) ((f ++ extension) ++ n) content (omega arith)
    (rw (length-append (f ++ extension) n, length-append f extension, length-header) (omega arith))
    (between_put l o1 o2 to (to + 4) f extension n room refl b1 b2) b3) b4)
    ∙ ap (put l to) (regroup f extension n content more))

-- The login packet, put in four.
module _ (l o1 o2 o3 o4 : List ℕ) (d : TradeDate) (content : List ℕ) (ending : MaybeEnding) (tags tail fields : ℕ) where
  pub login-put : tags ≡ length (extension_bytes (tags_for d)) → tail ≡ length (ending_bytes ending)
      → fields ≡ length (fields_of (content ++ ending_bytes ending))
      → fields < 65536 → 4 + tags ≤ length l
      → o1 ≡ put (put l 0 (frame_head 1 tags (16 + (length content + tail)))) (4 + tags)
      (header_bytes (record { tid = login_tid; chain = Single; series = 0; number = 0; fields = fields % 65536 })
      (length content + tail))
      → o2 ≡ put o1 4 (extension_bytes (tags_for d)) → o3 ≡ put o2 (4 + tags + 16) content
      → o4 ≡ put o3 (4 + tags + 16 + length content) (ending_bytes ending)
      → o4 ≡ put l 0 (login_bytes d (content ++ ending_bytes ending))
  unfolding login_bytes login_header
  login-put t e f small room b1 b2 b3 b4 =
      let k : fields % 65536 ≡ length (fields_of (content ++ ending_bytes ending)) = omega arith in
      parts-put l o1 o2 o3 o4 0
      (record {
        tid = login_tid;
        chain = Single;
        series = 0;
        number = 0;
        fields = length
            (fields_of (content ++ ending_bytes ending));
      })
      (extension_bytes (tags_for d)) content (ending_bytes ending) (rw t at room) (rw (t, e, k) at b1) b2 (rw t at b3)
      (rw t at b4)

pub login-size : (d : TradeDate) (content : List ℕ) (ending : MaybeEnding) (tags tail : ℕ)
    → tags ≡ length (extension_bytes (tags_for d)) → tail ≡ length (ending_bytes ending)
    → length (login_bytes d (content ++ ending_bytes ending)) ≡ 4 + tags + (16 + (length content + tail))
unfolding login_bytes
login-size d content ending tags tail p q = rw (length-message, length-append content (ending_bytes ending), p, q)

-- ─── The fields ───

pub no_fields : 0 ≡ length (fields_of (ending_bytes None))
unfolding run_of
no_fields = refl

pub one_field : (series number : ℕ) → 1 ≡ length (fields_of (ending_bytes (some_start series number)))
unfolding run_of
one_field series number = sym (ap (λ (r : Run). length r.entries) (behind [] series number refl))

pub fields_of_ending : (e : MaybeEnding) → length (fields_of (ending_bytes e)) ≡ cond (is_some e) 1 0
fields_of_ending None = sym no_fields
fields_of_ending (Some e) = sym (one_field e.series e.number)

fields-more : (content : List ℕ) (ending : MaybeEnding) → ended (run_of field content) ≡ true
    → length (fields_of content) + length (fields_of (ending_bytes ending)) ≡ length
    (fields_of (content ++ ending_bytes ending))
fields-more content None whole = rw (append-nil content, ← no_fields) (omega arith)
fields-more content (Some found) whole =
    let one = one_field found.series found.number in
    let all : length (fields_of (content ++ resume_bytes found.series found.number)) ≡ length (fields_of content) + 1 =
    ap (λ (r : Run). length r.entries) (behind content found.series found.number whole)
    ∙ length-append (fields_of content) (resume_bytes found.series found.number ∷ []) in
    omega arith

-- ─── The verdict ───

-- The first piece of content that one packet holds is all of it.
all-taken : (l : List ℕ) (c : Cut) → NextPiece l 0 c → shaped l 4080 ≡ true
    → (c.end ≡ length l) × (c.count ≡ length (fields_of l))
all-taken l c next s =
    let e : piece_at l 0 c ∷ others_of (fields_of (drop c.end l)) ≡ record
    { count = length (fields_of l); bytes = l } ∷ [] =
    sym (next.pieces (shaped-facts l 4080 (shaped l 4080) refl s).1) ∙ one_piece l s in
    let p : piece_at l 0 c ≡ record { count = length (fields_of l); bytes = l } = cc in
    (omega (arith, ap (λ (x : Piece). length x.bytes) p, piece-length l 0 c next), ap (λ (x : Piece). x.count) p)

module _ (content : List ℕ) (ending : MaybeEnding) (tail : ℕ) (e : tail ≡ length (ending_bytes ending)) where
  pub login-long : 4080 - tail < length content → login_verdict content ending ≡ refuse FieldRun
  unfolding login_verdict shaped
  login-long h = rw (← e, lt-leb (length content) (4080 - tail) h)

  shape-all : shaped content (4080 - tail) ≡ true → shaped content 4080 ≡ true
  unfolding shaped
  shape-all s =
      let f = shaped-facts content (4080 - tail) (shaped content (4080 - tail)) refl s in
      rw (le-leb (length content) 4080 (omega (arith, f.0))) f.1

  module _ (c : Cut) (next : NextPiece content 0 c) where
    pub login-broken : c.end < length content → login_verdict content ending ≡ refuse FieldRun
    unfolding login_verdict
    login-broken h = rw (← e) (go (shaped content (4080 - tail)) refl)
      where
        go : (b : Bool) → shaped content (4080 - tail) ≡ b → cond b fine (refuse FieldRun) ≡ refuse FieldRun
        go true s = absurd (omega (arith, (all-taken content c next (shape-all s)).0))
        go false s = refl

    module _ (fits : length content ≤ 4080 - tail) (all : length content ≤ c.end) where
      whole : shaped content (4080 - tail) ≡ true
      unfolding shaped
      whole = rw (le-leb (length content) (4080 - tail) fits) (whole-last content 0 c next (omega (arith, next.high)))

      pub login-right : login_verdict content ending ≡ fine
      unfolding login_verdict
      login-right = rw (← e, whole)

      pub login-fields : (more : ℕ) → more ≡ length (fields_of (ending_bytes ending))
          → c.count + more ≡ length (fields_of (content ++ ending_bytes ending))
      login-fields more q =
          rw (q, (all-taken content c next (shape-all whole)).1)
          (fields-more content ending (shaped-ended content (4080 - tail) whole))
