-- Both round trips, and what the reader says of what a writer refuses. Assumes nothing.
use Prim.Native.Nat.{ℕ, ◌+◌, ◌-◌, ◌<◌, ◌≤◌}
use mathlib.Core.Path.{◌≡◌, refl, sym, ap, ◌∙◌}
use mathlib.Core.List.{List, [], ◌∷◌, ◌++◌, append_assoc}
use mathlib.Core.Bool.{Bool, true, false, cond, not, ◌&&◌, ◌||◌}
use native.Mathlib.Nat.{add-zero}
use native.Mathlib.Omega.{arith}
use borrow.Author.Tests.{lt-ltb, le-ltb, ne_eqb, ltb-true, ltb-false, eqb-true, eqb-false}
use lib.ListN.{length, get_or, take, drop, length-append, length-take, length-drop}
use lib.Seq.{drop_at, take-length, take-add, drop-drop, get_or-drop, take-append_seam}
use lib.Dec.{ltb, eqb}
use Rattle.ftd.specs.Bytes.{be16_of, be32_of, part, Bytes, bytes16, bytes32}
use Rattle.ftd.specs.Tags.{good_tags, trade_date_of, packet_place_of}
use Rattle.ftd.specs.Fields.{exact_run}
use Rattle.ftd.specs.Packet.{kind_of, extension_length, body_length, said_length, extension_of, version_of, tid_of}
use Rattle.ftd.specs.Packet.{letter_of, series_of, message_number_of, field_count_of, content_length_of, content_of}
use Rattle.ftd.specs.Packet.{wrong_body, is_skipped, is_letter, chain_of, chain_letter, span, header_of, accepted_of}
use Rattle.ftd.specs.Packet.{message_of, whole_of, read_of, with_tags, dated_of, is_short, not_one_packet}
use Rattle.ftd.specs.Packet.{no_message_packet}
use Rattle.ftd.specs.Packet.Helpers.{SaysLengths}
use Rattle.ftd.specs.Write.{frame_head, packet_bytes, header_bytes, message_bytes, Verdict, fine, refuse, other}
use Rattle.ftd.specs.Write.{is_plain, plain_verdict, message_verdict}
use Rattle.ftd.specs.declared.refusal.Refusal.{Refusal}
use Rattle.ftd.specs.declared.refusal.Refusal.TheVariants.{LongExtension, BrokenTag, BodyLength, FieldRun}
use Rattle.ftd.specs.declared.packet.Span.{Span}
use Rattle.ftd.specs.declared.packet.Chain.{Chain}
use Rattle.ftd.specs.declared.packet.Chain.TheVariants.{Single, First, Middle, Last}
use Rattle.ftd.specs.declared.packet.Header.{Header}
use Rattle.ftd.specs.declared.packet.Packet.{Packet}
use Rattle.ftd.specs.declared.packet.Packet.TheVariants.{Link, Skipped, Message, Refused}
use Rattle.ftd.specs.Types.{Written}
use Rattle.ftd.specs.Write.Laws.{at, plain_packet, WriteLaws}
use Rattle.ftd.proofs.Lists.{part-append, be16-width}
use Rattle.ftd.proofs.runs.Heads.{be16-drop, be32-drop}
use Rattle.ftd.proofs.bytes.Numbers.{back16, back32, one_byte, two_bytes, four_bytes}
use Rattle.ftd.proofs.write.Puts.{length-header, length-packet, length-message}
use Rattle.ftd.proofs.packet.One.{one_written, one-message}
use Rattle.ftd.proofs.packet.Verdicts.{header_made, accepted-made, fields-wrong, message-good, whole-skipped}
use Rattle.ftd.proofs.packet.Verdicts.{whole-broken, whole-link, whole-message, read-long, read-body, read-there}
use Rattle.ftd.proofs.packet.Laws.{by-test, There, Accepted, accepted, linked, passed, stays}

-- ─── A packet of any kind ───

module _ (kind : ℕ) (extension body : List ℕ) where
  abbrev p : List ℕ
  p = packet_bytes kind extension body

  kind-is : kind ≡ kind_of p
  unfolding packet_bytes
  kind-is = refl

  said-is : SaysLengths p (length extension) (length body)
  unfolding packet_bytes be16_of
  said-is = (refl, omega arith)

  four : 4 ≤ length p
  four = rw length-packet (omega arith)

  there : 4 + length extension + length body ≤ length p
  there = rw length-packet (omega arith)

  extension-is : part p 4 (length extension) ≡ extension
  unfolding packet_bytes
  extension-is = take-append_seam extension body

  body_is : drop (4 + length extension) p ≡ body
  unfolding packet_bytes
  body_is =
      drop_at (frame_head kind (length extension) (length body) ++ extension) body (4 + length extension)
      (rw length-append refl)

  body-part : part p (4 + length extension) (length body) ≡ body
  body-part = rw body_is (take-length body)

  tags-are : good_tags extension ≡ good_tags (take (4 + length extension - 4) (drop 4 p))
  tags-are =
      let d : 4 + length extension - 4 ≡ length extension = omega arith in
      rw (d, extension-is)

  -- The four bytes alone refuse it.
  long-read : 127 < length extension → read_of p ≡ Refused LongExtension
  long-read h = sym (read-long p four (length extension) said-is.0 h)

  module _ (fits : length extension ≤ 127) where
    body-read : wrong_body kind (length body) ≡ true → read_of p ≡ Refused BodyLength
    body-read w =
        sym (read-body p four (length extension) said-is.0 fits kind (length body) (length body) kind-is said-is.1
        refl _ refl w)

    -- It is there whole, and is what the rest says.
    whole-read : wrong_body kind (length body) ≡ false → (r : Packet) → r ≡ whole_of p → read_of p ≡ r
    whole-read w r e =
        sym (read-there p four (length extension) said-is.0 fits kind (length body) (length body) kind-is
        said-is.1 refl _ refl w there r e)

-- ─── Link and skipped packets ───

plain-facts : (kind body : ℕ) → is_plain kind body ≡ true
    → (wrong_body kind body ≡ false) × (is_skipped kind body ≡ false → body ≡ 0)
unfolding is_plain wrong_body is_skipped
plain-facts kind body e = go (ltb 65535 body) (eqb kind 1) refl (eqb body 0) refl e
  where
    clash : {A : Type 0} → false ≡ true → A
    clash x = let y : ◌≡◌ {A = ℕ} 0 1 = cc in absurd (omega arith)

    go : (a b : Bool) → eqb kind 1 ≡ b → (c : Bool) → eqb body 0 ≡ c → (not a && (not b || c)) ≡ true
        → ((b && (not c && (ltb body 16 || ltb 4096 body))) ≡ false)
        × ((ltb 1 kind || (eqb kind 0 && ltb 0 body)) ≡ false → body ≡ 0)
    go true b f c g e = clash e
    go false true f true g e = (refl, λ s. eqb-true body 0 g)
    go false true f false g e = clash e
    go false false f c g e = (refl, λ s. empty (ltb 1 kind) refl (eqb kind 0) refl s)
      where
        empty : (x : Bool) → ltb 1 kind ≡ x → (y : Bool) → eqb kind 0 ≡ y → (x || (y && ltb 0 body)) ≡ false → body ≡ 0
        empty true p y q s = clash (sym s)
        empty false p true q s = omega (arith, ltb-false 0 body s)
        empty false p false q s = absurd (omega (arith, ltb-false 1 kind p, eqb-false kind 1 f, eqb-false kind 0 q))

module _ (kind : ℕ) (extension body : List ℕ) where
  skipped-or : is_plain kind (length body) ≡ true → (s : Bool) → s ≡ is_skipped kind (length body)
      → (s || good_tags extension) ≡ true
      → cond s (Skipped kind (span 4 (length extension)) (span (4 + length extension) (length body)))
      (Link kind (span 4 (length extension)))
      ≡ whole_of (packet_bytes kind extension body)
  skipped-or f true e t =
      whole-skipped _ _ _ (said-is kind extension body) kind (kind-is kind extension body) true e refl
  skipped-or f false e t =
      whole-link _ _ _ (said-is kind extension body) kind (kind-is kind extension body) false e refl _
      (tags-are kind extension body) t
      ((plain-facts kind (length body) f).1 (sym e))

  pub plain-read : plain_verdict kind extension body ≡ fine
      → read_of (packet_bytes kind extension body) ≡ plain_packet kind (length extension) (length body)
  unfolding plain_verdict
  plain-read =
      by-test P (ltb 127 (length extension)) (λ a e. clash e) (λ a.
      by-test P (is_plain kind (length body)) (λ b.
      by-test P (is_skipped kind (length body) || good_tags extension)
      (λ c e. whole-read kind extension body (ltb-false 127 (length extension) a) (plain-facts kind (length body) b).0
      _ (skipped-or b _ refl c))
      (λ c e. clash e)) (λ b.
      by-test P (wrong_body kind (length body)) (λ c e. clash e) (λ c e. clash' e)))
    where
      P : Verdict → Type 0
      P v = v ≡ fine → read_of (packet_bytes kind extension body) ≡ plain_packet kind (length extension) (length body)

      clash : {A : Type 0} {r : Refusal} → refuse r ≡ fine → A
      clash x = let y : ◌≡◌ {A = ℕ} 0 1 = cc in absurd (omega arith)

      clash' : {A : Type 0} {w : Written} → other w ≡ fine → A
      clash' x = let y : ◌≡◌ {A = ℕ} 0 1 = cc in absurd (omega arith)

  pub plain-refused : (r : Refusal) → plain_verdict kind extension body ≡ refuse r
      → read_of (packet_bytes kind extension body) ≡ Refused r
  unfolding plain_verdict
  plain-refused r =
      by-test P (ltb 127 (length extension))
      (λ a e. long-read kind extension body (ltb-true 127 (length extension) a) ∙ same e) (λ a.
      by-test P (is_plain kind (length body)) (λ b.
      by-test P (is_skipped kind (length body) || good_tags extension) (λ c e. clash e)
      (λ c e. whole-read kind extension body (ltb-false 127 (length extension) a) (plain-facts kind (length body) b).0
      _ (broken _ refl c) ∙ same e))
      (λ b.
      by-test P (wrong_body kind (length body))
      (λ c e. body-read kind extension body (ltb-false 127 (length extension) a) c ∙ same e) (λ c e. clash' e)))
    where
      P : Verdict → Type 0
      P v = v ≡ refuse r → read_of (packet_bytes kind extension body) ≡ Refused r

      same : {x : Refusal} → refuse x ≡ refuse r → Refused x ≡ Refused r
      same e = cc

      clash : {A : Type 0} → fine ≡ refuse r → A
      clash x = let y : ◌≡◌ {A = ℕ} 0 1 = cc in absurd (omega arith)

      clash' : {A : Type 0} {w : Written} → other w ≡ refuse r → A
      clash' x = let y : ◌≡◌ {A = ℕ} 0 1 = cc in absurd (omega arith)

      broken : (s : Bool) → s ≡ is_skipped kind (length body) → (s || good_tags extension) ≡ false
          → Refused BrokenTag ≡ whole_of (packet_bytes kind extension body)
      broken true e t = let y : ◌≡◌ {A = ℕ} 0 1 = cc in absurd (omega arith)
      broken false e t =
          whole-broken _ _ _ (said-is kind extension body) kind (kind-is kind extension body) false e refl _
          (tags-are kind extension body) t

-- ─── Message packets ───

letter-back : (c : Chain) → (is_letter (chain_letter c) ≡ true) × (chain_of (chain_letter c) ≡ c)
unfolding is_letter chain_of
letter-back Single = (refl, refl)
letter-back First = (refl, refl)
letter-back Middle = (refl, refl)
letter-back Last = (refl, refl)

module _ (h : Header) (extension content : List ℕ) where
  abbrev header : List ℕ
  header = header_bytes h (length content)

  abbrev m : List ℕ
  m = message_bytes h extension content

  long-body : length (header ++ content) ≡ 16 + length content
  long-body = rw (length-append, length-header)

  said-message : SaysLengths m (length extension) (16 + length content)
  unfolding message_bytes
  said-message = let s = said-is 1 extension (header ++ content) in (s.0, sym long-body ∙ s.1)

  -- Numbers of the header, where they stand in the packet.
  byte-there : (i : ℕ) → get_or m (4 + length extension + i) 0 ≡ get_or (header ++ content) i 0
  unfolding message_bytes
  byte-there i =
      sym (get_or-drop (4 + length extension) m i 0)
      ∙ ap (λ (l : List ℕ). get_or l i 0) (body_is 1 extension (header ++ content))

  two-there : (i : ℕ) → be16_of m (4 + length extension + i) ≡ be16_of (header ++ content) i
  unfolding message_bytes
  two-there i =
      sym (be16-drop (4 + length extension) m i)
      ∙ ap (λ (l : List ℕ). be16_of l i) (body_is 1 extension (header ++ content))

  four-there : (i : ℕ) → be32_of m (4 + length extension + i) ≡ be32_of (header ++ content) i
  unfolding message_bytes
  four-there i =
      sym (be32-drop (4 + length extension) m i)
      ∙ ap (λ (l : List ℕ). be32_of l i) (body_is 1 extension (header ++ content))

  version-there : get_or m (4 + length extension) 0 ≡ 1
  unfolding header_bytes
  version-there = rw add-zero at (byte-there 0)

  letter-there : get_or m (4 + length extension + 5) 0 ≡ chain_letter h.chain
  unfolding header_bytes
  letter-there = byte-there 5

  tid-there : h.tid ≡ be32_of m (4 + length extension + 1)
  unfolding header_bytes be32_of
  tid-there = sym (four-there 1 ∙ back32 h.tid [])

  series-there : h.series ≡ be16_of m (4 + length extension + 6)
  unfolding header_bytes be16_of
  series-there = sym (two-there 6 ∙ back16 h.series [])

  number-there : h.number ≡ be32_of m (4 + length extension + 8)
  unfolding header_bytes be32_of
  number-there = sym (four-there 8 ∙ back32 h.number [])

  fields-there : h.fields ≡ be16_of m (4 + length extension + 12)
  unfolding header_bytes be16_of
  fields-there = sym (two-there 12 ∙ back16 h.fields [])

  size-there : length content ≡ be16_of m (4 + length extension + 14)
  unfolding header_bytes be16_of
  size-there = sym (two-there 14 ∙ back16 (length content) [])

  content-there : drop (4 + length extension + 16) m ≡ content
  unfolding message_bytes
  content-there =
      sym (drop-drop 16 (4 + length extension) m)
      ∙ ap (drop 16) (body_is 1 extension (header ++ content))
      ∙ drop_at header content 16 (length-header h (length content))

  content-part : part m (4 + length extension + 16) (length content) ≡ content
  content-part = rw content-there (take-length content)

  extension-part : part m 4 (length extension) ≡ extension
  unfolding message_bytes
  extension-part = extension-is 1 extension (header ++ content)

  fields-are : exact_run content h.fields ≡ exact_run
      (take (4 + length extension + (16 + length content) - (4 + length extension + 16))
      (drop (4 + length extension + 16) m)) h.fields
  fields-are =
      let d : 4 + length extension + (16 + length content) - (4 + length extension + 16) ≡ length content =
      omega arith in
      rw (d, content-part)

  body-some : 16 + length content ≡ 0 → ⊥
  body-some e = omega arith

  body-fits : length content ≤ 4080 → wrong_body 1 (16 + length content) ≡ false
  unfolding wrong_body
  body-fits f =
      rw (
        ne_eqb (16 + length content) 0 body-some,
        le-ltb (16 + length content) 16 (omega arith),
        le-ltb 4096
            (16 + length content) (omega arith),
      )

  body-long : 4080 < length content → wrong_body 1 (16 + length content) ≡ true
  unfolding wrong_body
  body-long f =
      rw (
        ne_eqb (16 + length content) 0 body-some,
        le-ltb (16 + length content) 16 (omega arith),
        lt-ltb 4096
            (16 + length content) (omega arith),
      )

  not-skipped : false ≡ is_skipped 1 (16 + length content)
  unfolding is_skipped
  not-skipped = refl

  as_read : accepted_of m ≡ Message h (span 4 (length extension)) (span (4 + length extension + 16) (length content))
  as_read =
      sym (rw d at (accepted-made m (length extension) (16 + length content) said-message h
      (header_made m (length extension) said-message.0 h.tid h.chain h.series h.number h.fields
      tid-there
      (sym (letter-back h.chain).1 ∙ ap chain_of (sym letter-there)) series-there number-there fields-there)))
    where
      d : 16 + length content - 16 ≡ length content
      d = omega arith

  letter-good : true ≡ is_letter (get_or m (4 + length extension + 5) 0)
  letter-good = sym (letter-back h.chain).0 ∙ ap is_letter (sym letter-there)

  kind-message : 1 ≡ kind_of m
  unfolding message_bytes
  kind-message = kind-is 1 extension (header ++ content)

  tags-message : good_tags extension ≡ good_tags (take (4 + length extension - 4) (drop 4 m))
  unfolding message_bytes
  tags-message = tags-are 1 extension (header ++ content)

  there-message : 4 + length extension + (16 + length content) ≤ length m
  there-message = rw length-message (omega arith)

  four-message : 4 ≤ length m
  four-message = rw length-message (omega arith)

  module _ (fits : length extension ≤ 127) where
    pub message-body : 4080 < length content → read_of m ≡ Refused BodyLength
    message-body w =
        sym (read-body m four-message (length extension) said-message.0 fits 1 (16 + length content)
        (16 + length content) kind-message said-message.1 refl
        true (sym (body-long w)) refl)

    module _ (small : length content ≤ 4080) where
      whole-message-read : (r : Packet) → r ≡ whole_of m → read_of m ≡ r
      whole-message-read r e =
          sym (read-there m four-message (length extension) said-message.0 fits 1 (16 + length content)
          (16 + length content) kind-message said-message.1 refl
          false (sym (body-fits small)) refl there-message r e)

      pub message-broken : good_tags extension ≡ false → read_of m ≡ Refused BrokenTag
      message-broken t =
          whole-message-read _
          (whole-broken m (length extension) (16 + length content) said-message 1 kind-message false not-skipped refl _
          tags-message t)

      module _ (tags : good_tags extension ≡ true) where
        message-decided : (r : Packet) → r ≡ message_of m → read_of m ≡ r
        message-decided r e =
            whole-message-read r
            (whole-message m (length extension) (16 + length content) said-message 1 kind-message false not-skipped refl
            _ tags-message tags body-some r e)

        pub message-run : exact_run content h.fields ≡ false → read_of m ≡ Refused FieldRun
        message-run x =
            message-decided _
            (fields-wrong m (length extension) (16 + length content) said-message version-there true letter-good refl
            (length content) (length content) size-there refl
            (omega arith) h.fields fields-there _ fields-are x)

        pub message-right : exact_run content h.fields ≡ true
            → read_of m ≡ Message h (span 4 (length extension)) (span (4 + length extension + 16) (length content))
        message-right x =
            message-decided _
            (message-good m (length extension) (16 + length content) said-message version-there true letter-good refl
            (length content) (length content) size-there refl
            (omega arith) h.fields fields-there _ fields-are x _ (sym as_read))

  fine-or : {r : Refusal} → refuse r ≡ fine → ⊥
  fine-or e = let y : ◌≡◌ {A = ℕ} 0 1 = cc in omega arith

  message-read : message_verdict h extension content ≡ fine
      → read_of m ≡ Message h (span 4 (length extension)) (span (4 + length extension + 16) (length content))
  unfolding message_verdict
  message-read =
      by-test P (ltb 127 (length extension)) (λ a e. absurd (fine-or e)) (λ a.
      by-test P (ltb 4080 (length content)) (λ b e. absurd (fine-or e)) (λ b.
      by-test P (good_tags extension) (λ t.
      by-test P (exact_run content h.fields)
      (λ x e. message-right (ltb-false 127 (length extension) a) (ltb-false 4080 (length content) b) t x)
      (λ x e. absurd (fine-or e)))
      (λ t e. absurd (fine-or e))))
    where
      P : Verdict → Type 0
      P v =
          v ≡ fine → read_of m ≡ Message h (span 4 (length extension))
          (span (4 + length extension + 16) (length content))

  pub message-refused : (r : Refusal) → message_verdict h extension content ≡ refuse r → read_of m ≡ Refused r
  unfolding message_verdict
  message-refused r =
      by-test P (ltb 127 (length extension)) (λ a e. long (ltb-true 127 (length extension) a) ∙ same e) (λ a.
      let fits = ltb-false 127 (length extension) a in
      by-test P (ltb 4080 (length content)) (λ b e. message-body fits (ltb-true 4080 (length content) b) ∙ same e) (λ b.
      let small = ltb-false 4080 (length content) b in
      by-test P (good_tags extension) (λ t.
      by-test P (exact_run content h.fields) (λ x e. let y : ◌≡◌ {A = ℕ} 0 1 = cc in absurd (omega arith))
      (λ x e. message-run fits small t x ∙ same e))
      (λ t e. message-broken fits small t ∙ same e)))
    where
      P : Verdict → Type 0
      P v = v ≡ refuse r → read_of m ≡ Refused r

      same : {x : Refusal} → refuse x ≡ refuse r → Refused x ≡ Refused r
      same e = cc

      long : 127 < length extension → read_of m ≡ Refused LongExtension
      long w = sym (read-long m four-message (length extension) said-message.0 w)

  pub message-back : (q : List ℕ) → message_verdict h extension content ≡ fine
      → read_of (m ++ q) ≡ Message h (span 4 (length extension)) (span (4 + length extension + 16) (length content))
  message-back q v = stays m q (rw (message-read v) refl) ∙ message-read v

  pub message-places : (q : List ℕ) → (part (m ++ q) 4 (length extension) ≡ extension)
      × (part (m ++ q) (4 + length extension + 16) (length content) ≡ content)
  message-places q =
      let t = there-message in (
        part-append m q 4 (length extension) (omega arith) ∙ extension-part,
        part-append m q (4 + length extension + 16) (length content) (omega arith) ∙ content-part,
      )

  -- With its trade date.
  extension-said : (q : List ℕ) → extension_length (m ++ q) ≡ length extension
  unfolding message_bytes packet_bytes
  extension-said q = refl

  extension-read : (q : List ℕ) → extension_of (m ++ q) ≡ extension
  unfolding extension_of
  extension-read q = rw (extension-said q) (message-places q).0

  pub dated-back : (q : List ℕ) → message_verdict h extension content ≡ fine
      → dated_of (m ++ q)
      ≡ record {
        packet = Message h (span 4 (length extension)) (span (4 + length extension + 16) (length content));
        date = trade_date_of extension;
        place = packet_place_of extension;
      }
  unfolding dated_of with_tags
  dated-back q v = rw (message-back q v, extension-read q)

  -- It is one packet, and a message packet.
  small-fine : message_verdict h extension content ≡ fine → length content ≤ 4080
  unfolding message_verdict
  small-fine =
      by-test P (ltb 127 (length extension)) (λ a e. absurd (fine-or e)) (λ a.
      by-test P (ltb 4080 (length content)) (λ b e. absurd (fine-or e)) (λ b e. ltb-false 4080 (length content) b))
    where
      P : Verdict → Type 0
      P v = v ≡ fine → length content ≤ 4080

  pub message-one : message_verdict h extension content ≡ fine
      → (not_one_packet m ≡ false) × (no_message_packet m ≡ false)
  message-one v = (one_written h extension content, one-message h extension content (small-fine v))

module _ (kind : ℕ) (extension body : List ℕ) (q : List ℕ) where
  not_short : (s : Bool) (x : Packet) → is_short x ≡ false → (y : Packet) → is_short y ≡ false
      → is_short (cond s x y) ≡ false
  not_short true x e y f = e
  not_short false x e y f = f

  pub plain_back : plain_verdict kind extension body ≡ fine
      → read_of (packet_bytes kind extension body ++ q) ≡ plain_packet kind (length extension) (length body)
  plain_back v =
      stays (packet_bytes kind extension body) q
      (rw (plain-read kind extension body v) (not_short (is_skipped kind (length body)) _ refl _ refl))
      ∙ plain-read kind extension body v

  pub plain-places : (part (packet_bytes kind extension body ++ q) 4 (length extension) ≡ extension)
      × (part (packet_bytes kind extension body ++ q) (4 + length extension) (length body) ≡ body)
  plain-places =
      let t = there kind extension body in (
        part-append (packet_bytes kind extension body) q 4 (length extension) (omega arith)
            ∙ extension-is kind extension body,
        part-append (packet_bytes kind extension body) q (4 + length extension) (length body) (omega arith)
            ∙ body-part kind extension body,
      )

-- ─── Writing the values that were read ───

module _ (p : List ℕ) (bytes : Bytes p) (four : 4 ≤ length p) where
  -- The first four bytes.
  frame-again : frame_head (kind_of p) (extension_length p) (body_length p) ≡ take 4 p
  frame-again =
      sym (take-add 1 3 p
      ∙ ap (λ (l : List ℕ). take 1 p ++ l)
      (take-add 1 2 (drop 1 p) ∙ ap (λ (l : List ℕ). take 1 (drop 1 p) ++ take 2 l) (drop-drop 1 1 p))
      ∙ rw (one_byte p 0 (omega arith), one_byte p 1 (omega arith), two_bytes p bytes 2 (omega arith)))

  module _ (there : said_length p ≤ length p) where
    ext-long : length (part p 4 (extension_length p)) ≡ extension_length p
    unfolding said_length
    ext-long = simp (length-take, length-drop) (omega arith)

    body-length : length (part p (4 + extension_length p) (body_length p)) ≡ body_length p
    unfolding said_length
    body-length = simp (length-take, length-drop) (omega arith)

    pub packet-again : packet_bytes (kind_of p) (part p 4 (extension_length p))
        (part p (4 + extension_length p) (body_length p)) ≡ take (said_length p) p
    unfolding packet_bytes said_length
    packet-again =
        rw (ext-long, body-length)
        (ap (λ (l : List ℕ). l ++ (part p 4 (extension_length p) ++ part p (4 + extension_length p) (body_length p)))
        frame-again
        ∙ sym (append_assoc (take 4 p) (part p 4 (extension_length p)) (part p (4 + extension_length p) (body_length p)))
        ∙ ap (λ (l : List ℕ). l ++ part p (4 + extension_length p) (body_length p))
        (sym (take-add 4 (extension_length p) p))
        ∙ sym (take-add (4 + extension_length p) (body_length p) p))

-- The header of a message, from the sixteen bytes where it stands.
pub letter-again : (x : ℕ) → is_letter x ≡ true → chain_letter (chain_of x) ≡ x
unfolding is_letter chain_of
letter-again x = go (eqb x 83) refl (eqb x 70) refl (eqb x 67) refl (eqb x 76) refl
  where
    go : (a : Bool) → eqb x 83 ≡ a → (b : Bool) → eqb x 70 ≡ b → (c : Bool) → eqb x 67 ≡ c → (d : Bool) → eqb x 76 ≡ d
        → (a || (b || (c || d))) ≡ true → chain_letter (cond a Single (cond b First (cond c Middle Last))) ≡ x
    go true e b f c g d h t = sym (eqb-true x 83 e)
    go false e true f c g d h t = sym (eqb-true x 70 f)
    go false e false f true g d h t = sym (eqb-true x 67 g)
    go false e false f false g true h t = sym (eqb-true x 76 h)
    go false e false f false g false h t = let y : ◌≡◌ {A = ℕ} 0 1 = cc in absurd (omega arith)

module _ (p : List ℕ) (h : Header) (x y : Span) (bytes : Bytes p) (r : read_of p ≡ Message h x y) where
  a : Accepted p h x y
  a = accepted p h x y r

  cut : (i n k : ℕ) → take (n + k) (drop (4 + extension_length p + i) p) ≡ take n
      (drop (4 + extension_length p + i) p) ++ take k (drop (4 + extension_length p + (i + n)) p)
  cut i n k =
      let e : 4 + extension_length p + i + n ≡ 4 + extension_length p + (i + n) = omega arith in
      take-add n k (drop (4 + extension_length p + i) p)
      ∙ ap (λ (l : List ℕ). take n (drop (4 + extension_length p + i) p) ++ take k l)
      (drop-drop n (4 + extension_length p + i) p ∙ ap (λ (j : ℕ). drop j p) e)

  room : 4 + extension_length p + 16 ≤ length p
  unfolding said_length
  room = omega (arith, a.whole.there, a.right.least)

  one : (i : ℕ) → i < 16 → take 1 (drop (4 + extension_length p + i) p) ≡ get_or p (4 + extension_length p + i) 0 ∷ []
  one i h = one_byte p (4 + extension_length p + i) (omega (arith, room))

  two : (i : ℕ) → i + 2 ≤ 16 → take 2 (drop (4 + extension_length p + i) p) ≡ bytes16
      (be16_of p (4 + extension_length p + i))
  two i h = two_bytes p bytes (4 + extension_length p + i) (omega (arith, room))

  quad : (i : ℕ) → i + 4 ≤ 16 → take 4 (drop (4 + extension_length p + i) p) ≡ bytes32
      (be32_of p (4 + extension_length p + i))
  quad i h = four_bytes p bytes (4 + extension_length p + i) (omega (arith, room))

  version-is : get_or p (4 + extension_length p) 0 ≡ 1
  unfolding version_of
  version-is = a.right.version

  letter-is : is_letter (get_or p (4 + extension_length p + 5) 0) ≡ true
  unfolding letter_of
  letter-is = a.right.letter

  header-again : header_bytes (header_of p) (content_length_of p) ≡ take 16 (drop (4 + extension_length p) p)
  unfolding header_bytes header_of tid_of letter_of series_of message_number_of field_count_of content_length_of
  header-again =
      let v : get_or p (4 + extension_length p + 0) 0 ≡ 1 = rw add-zero version-is in
      sym (ap (λ (j : ℕ). take 16 (drop j p)) (sym (add-zero (4 + extension_length p)))
      ∙ cut 0 1 15 ∙ ap (λ (l : List ℕ). take 1 (drop (4 + extension_length p + 0) p) ++ l)
      (cut 1 4 11 ∙ ap (λ (l : List ℕ). take 4 (drop (4 + extension_length p + 1) p) ++ l)
      (cut 5 1 10 ∙ ap (λ (l : List ℕ). take 1 (drop (4 + extension_length p + 5) p) ++ l)
      (cut 6 2 8 ∙ ap (λ (l : List ℕ). take 2 (drop (4 + extension_length p + 6) p) ++ l)
      (cut 8 4 4 ∙ ap (λ (l : List ℕ). take 4 (drop (4 + extension_length p + 8) p) ++ l)
      (cut 12 2 2)))))
      ∙ rw (
        one 0 (omega arith),
        v,
        quad 1 (omega arith),
        one 5 (omega arith),
        two 6 (omega arith),
        quad 8 (omega arith),
        two 12 (omega arith),
        two 14 (omega arith),
        letter-again (get_or p (4 + extension_length p + 5) 0) letter-is,
      ))

  content-long : length (content_of p) ≡ content_length_of p
  unfolding content_of said_length
  content-long = simp (length-take, length-drop) (omega (arith, a.whole.there, a.right.least, a.right.size))

  ext-short : length (extension_of p) ≡ extension_length p
  unfolding extension_of
  ext-short = ext-long p bytes a.whole.four a.whole.there

  body-parts : header_bytes (header_of p) (length (content_of p)) ++ content_of p ≡ part p (4 + extension_length p)
      (body_length p)
  unfolding content_of
  body-parts =
      let e : body_length p ≡ 16 + (body_length p - 16) = omega (arith, a.right.least) in
      let long : length (take (body_length p - 16) (drop (4 + extension_length p + 16) p)) ≡ content_length_of p =
      content-long in
      rw (long, header-again)
      (ap (λ (l : List ℕ). take 16 (drop (4 + extension_length p) p) ++ take (body_length p - 16) l)
      (sym (drop-drop 16 (4 + extension_length p) p))
      ∙ sym (take-add 16 (body_length p - 16) (drop (4 + extension_length p) p))
      ∙ ap (λ (n : ℕ). take n (drop (4 + extension_length p) p)) (sym e))

  verdict-fine : message_verdict (header_of p) (extension_of p) (content_of p) ≡ fine
  unfolding message_verdict header_of
  verdict-fine =
      rw (
        ext-short,
        content-long,
        le-ltb 127 (extension_length p) a.whole.extension,
        le-ltb 4080 (content_length_of p) (omega (arith, a.right.most, a.right.size)),
        a.right.tags,
        a.right.fields,
      )

  bytes-again : message_bytes (header_of p) (extension_of p) (content_of p) ≡ take (said_length p) p
  unfolding message_bytes extension_of
  bytes-again =
      ap (packet_bytes 1 (part p 4 (extension_length p))) body-parts
      ∙ ap (λ (k : ℕ). packet_bytes k (part p 4 (extension_length p)) (part p (4 + extension_length p) (body_length p)))
      (sym a.right.kind)
      ∙ packet-again p bytes a.whole.four a.whole.there

  pub message-again : (message_verdict h (at p x) (at p y) ≡ fine)
      × (message_bytes h (at p x) (at p y) ≡ take (said_length p) p)
  unfolding extension_of content_of
  message-again = rw (a.header, a.extent, a.content) (verdict-fine, bytes-again)

module _ (p : List ℕ) (kind : ℕ) (x y : Span) (bytes : Bytes p) where
  plain-some : (body : List ℕ) → (length body ≡ body_length p) → There p → is_plain (kind_of p) (body_length p) ≡ true
      → (is_skipped (kind_of p) (body_length p) || good_tags (extension_of p)) ≡ true
      → plain_verdict (kind_of p) (extension_of p) body ≡ fine
  unfolding plain_verdict extension_of
  plain-some body e w f t =
      rw (e, ext-long p bytes w.four w.there, le-ltb 127 (extension_length p) w.extension, f, t)

  -- A body of two bytes' length is plain, if it is skipped or not there.
  skipped-plain : body_length p < 65536 → is_skipped (kind_of p) (body_length p) ≡ true
      → is_plain (kind_of p) (body_length p) ≡ true
  unfolding is_skipped is_plain
  skipped-plain w s = rw (le-ltb 65535 (body_length p) (omega arith)) (go (eqb (kind_of p) 1) refl)
    where
      go : (b : Bool) → eqb (kind_of p) 1 ≡ b → (not b || eqb (body_length p) 0) ≡ true
      go false e = refl
      go true e = let k = rw (eqb-true (kind_of p) 1 e) at s in let y : ◌≡◌ {A = ℕ} 0 1 = cc in absurd (omega arith)

  empty-plain : body_length p ≡ 0 → is_plain (kind_of p) (body_length p) ≡ true
  unfolding is_plain
  empty-plain z = rw z (go (not (eqb (kind_of p) 1)))
    where
      go : (b : Bool) → (b || true) ≡ true
      go true = refl
      go false = refl

  pub link-again : read_of p ≡ Link kind x
      → (plain_verdict kind (at p x) [] ≡ fine) × (packet_bytes kind (at p x) [] ≡ take (said_length p) p)
  unfolding extension_of
  link-again r =
      let a = linked p kind x r in
      let none : part p (4 + extension_length p) (body_length p) ≡ [] = rw a.body in
      rw (a.type, a.extent) (
        plain-some [] (sym a.body) a.whole (empty-plain a.body) (rw a.plain a.tags),
        ap (packet_bytes (kind_of p) (part p 4 (extension_length p))) (sym none)
            ∙ packet-again p bytes a.whole.four a.whole.there,
      )

  pub skipped-again : read_of p ≡ Skipped kind x y
      → (plain_verdict kind (at p x) (at p y) ≡ fine) × (packet_bytes kind (at p x) (at p y) ≡ take (said_length p) p)
  unfolding extension_of
  skipped-again r =
      let a = passed p kind x y r in
      rw (a.type, a.extent, a.body) (
        plain-some (part p (4 + extension_length p) (body_length p))
            (body-length p bytes a.whole.four a.whole.there) a.whole
            (skipped-plain (be16-width p bytes 2) a.skipped) (rw a.skipped),
        packet-again p bytes a.whole.four a.whole.there,
      )

-- ─── All of it ───

pub write-laws : WriteLaws
write-laws =
    record {
      message-back = message-back;
      message-places = message-places;
      dated-back = dated-back;
      one-packet = message-one;
      plain_back = plain_back;
      plain-places = λ kind extension body q. plain-places kind extension body q;
      message-refused = message-refused;
      plain-refused = plain-refused;
      message-again = λ p h e c b r. message-again p h e c b r;
      link-again = λ p kind e b r. link-again p kind e e b r;
      skipped-again = λ p kind e b w r. skipped-again p kind e b w r;
    }
