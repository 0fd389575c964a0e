-- What holds of the reader's answers. Assumes nothing.
use Prim.Native.Nat.{ℕ, zero, suc, ◌+◌, ◌-◌, ◌<◌, ◌≤◌}
use mathlib.Core.Path.{◌≡◌, refl, sym, ap, ◌∙◌}
use mathlib.Core.List.{List, [], ◌∷◌, ◌++◌}
use mathlib.Core.Bool.{Bool, true, false, cond, ◌&&◌, ◌||◌}
use mathlib.Core.Logic.{◌↔◌, ◌⊎◌, inl, inr}
use native.Mathlib.Omega.{arith}
use borrow.Author.Tests.{lt-ltb, le-ltb, eq-eqb, ne_eqb, ltb-true, ltb-false, eqb-true, eqb-false, not-true, not-false}
use lib.ListN.{length, get_or, take, drop, length-append, length-take}
use lib.Seq.{drop-drop}
use lib.Dec.{ltb, eqb}
use Rattle.ftd.specs.Bytes.{be16_of, be32_of, part, joined, Bytes}
use Rattle.ftd.specs.Runs.{run_of, ended}
use Rattle.ftd.specs.Tags.{good_tags}
use Rattle.ftd.specs.Fields.{field, fields_of, fid_of, bytes_of, exact_run, field_in, field_place_of, FieldInside}
use Rattle.ftd.specs.Packet.{kind_of, extension_length, body_length, said_length, extension_of, version_of, tid_of}
use Rattle.ftd.specs.Packet.{letter_of, series_of, message_number_of, field_count_of, content_length_of, content_of}
use Rattle.ftd.specs.Packet.{head_missing, rest_missing, long_extension, wrong_body, is_skipped, broken_tag, is_link}
use Rattle.ftd.specs.Packet.{wrong_version, is_letter, wrong_letter, wrong_content_length, wrong_fields, chain_of, span}
use Rattle.ftd.specs.Packet.{body_start, extension_span, content_span, header_of, accepted_of, message_of, whole_of}
use Rattle.ftd.specs.Packet.{read_of, is_short, fields_within, message_fields, moved_by, field_within, field_of, part_at}
use Rattle.ftd.specs.Packet.{field_bytes, missing_of, not_one_packet, with_tags, dated_of, verdict_of, judgement}
use Rattle.ftd.specs.Packet.{judged_of, parts_of}
use Rattle.ftd.specs.Packet.Helpers.{SaysLengths, FitsIn}
use Rattle.ftd.specs.Packet.Laws.{IsMessage, IsLink, IsSkipped, IsCut, IsShort, Inside, InWidth, unnumbered}
use Rattle.ftd.specs.Packet.Laws.{ShortLaws, ReadLaws}
use Rattle.ftd.specs.declared.refusal.Refusal.{Refusal}
use Rattle.ftd.specs.declared.refusal.Refusal.TheVariants.{LongExtension, BrokenTag, BodyLength, Version}
use Rattle.ftd.specs.declared.refusal.Refusal.TheVariants.{ChainLetter, ContentLength, FieldRun}
use Rattle.ftd.specs.declared.packet.Header.{Header}
use Rattle.ftd.specs.declared.packet.Span.{Span}
use Rattle.ftd.specs.declared.packet.Packet.{Packet}
use Rattle.ftd.specs.declared.packet.Packet.TheVariants.{Short, Link, Skipped, Message, Refused}
use Rattle.ftd.specs.declared.packet.Verdict.{Verdict}
use Rattle.ftd.specs.declared.packet.Verdict.TheVariants.{TooFew, LinkPacket, SkippedPacket, MessagePacket, Against}
use Rattle.ftd.specs.declared.packet.Judged.{Judged}
use Rattle.ftd.proofs.Lists.{byte-append, be16-append, be32-append, part-append, be16-width, be32-width}
use Rattle.ftd.proofs.Lists.{part-part, drop-part, joined-part, joined-inside}
use Rattle.ftd.proofs.runs.Laws.{run-whole}
use Rattle.ftd.proofs.runs.Turns.{and-false}
use Rattle.ftd.proofs.packet.Verdicts.{header_made, version-wrong, letter-wrong, length-wrong, fields-wrong}
use Rattle.ftd.proofs.packet.Verdicts.{message-good, whole-skipped, whole-broken, whole-link, whole-message}
use Rattle.ftd.proofs.packet.Verdicts.{body-bounds, body-least, read-head-missing, read-long, read-body}
use Rattle.ftd.proofs.packet.Verdicts.{read-rest-missing, read-there, head-number, rest-number}
use Rattle.std.specs.Prelude.{Some, None}
use Rattle.ftd.specs.Types.{MaybeField, some_field}

-- A test decides between two answers: both cases are shown.
pub by-test : {A : Type 0} (P : A → Type 0) (b : Bool) {x y : A} → (b ≡ true → P x) → (b ≡ false → P y) → P (cond b x y)
by-test P true f g = f refl
by-test P false f g = g refl

-- ─── What each answer stands for ───

-- A packet that the four bytes do not refuse and that is there whole.
pub record There (p : List ℕ) : Type 0 where
  pub four : 4 ≤ length p
  pub extension : extension_length p ≤ 127
  pub right : wrong_body (kind_of p) (body_length p) ≡ false
  pub there : said_length p ≤ length p

-- A message packet with nothing wrong.
pub record Right (p : List ℕ) : Type 0 where
  pub kind : kind_of p ≡ 1
  pub least : 16 ≤ body_length p
  pub most : body_length p ≤ 4096
  pub tags : good_tags (extension_of p) ≡ true
  pub version : version_of p ≡ 1
  pub letter : is_letter (letter_of p) ≡ true
  pub size : content_length_of p + 16 ≡ body_length p
  pub fields : exact_run (content_of p) (field_count_of p) ≡ true

-- What holds of each answer, with what has led to it, holds of the reader's.
pub read-cases : (p : List ℕ) (Q : Packet → Type 0) → (IsShort p → Q (Short (missing_of p)))
    → ((r : Refusal) → Q (Refused r))
    → (There p → is_skipped (kind_of p) (body_length p) ≡ true
    → Q (Skipped (kind_of p) (extension_span p) (span (body_start p) (body_length p))))
    → (There p → is_skipped (kind_of p) (body_length p) ≡ false → good_tags (extension_of p) ≡ true → body_length p ≡ 0
    → Q (Link (kind_of p) (extension_span p)))
    → (There p → Right p → Q (accepted_of p)) → Q (read_of p)
unfolding read_of rest_missing whole_of message_of
read-cases p Q short refused skipped link message =
    by-test Q (head_missing p) (λ a. short (inl (ltb-true (length p) 4 a))) (λ a.
    by-test Q (long_extension p) (λ b. refused LongExtension) (λ b.
    by-test Q (wrong_body (kind_of p) (body_length p)) (λ c. refused BodyLength) (λ c.
    by-test Q (rest_missing p)
    (λ d. short (inr (record {
      four = ltb-false (length p) 4 a;
      extension = ltb-false 127 (extension_length p) b;
      body = c;
      rest = ltb-true (length p) (said_length p) d;
    })))
    (λ d.
    let w : There p =
    record {
      four = ltb-false (length p) 4 a;
      extension = ltb-false 127 (extension_length p) b;
      right = c;
      there = ltb-false (length p) (said_length p) d;
    } in
    by-test Q (is_skipped (kind_of p) (body_length p)) (λ s. skipped w s) (λ s.
    by-test Q (broken_tag p) (λ f. refused BrokenTag) (λ f.
    by-test Q (is_link p) (λ g. link w s (not-false (good_tags (extension_of p)) f) (eqb-true (body_length p) 0 g)) (λ g.
    let bounds = body-bounds (kind_of p) (body_length p) _ refl s c (eqb-false (body_length p) 0 g) in
    by-test Q (wrong_version p) (λ v. refused Version) (λ v.
    by-test Q (wrong_letter p) (λ l. refused ChainLetter) (λ l.
    by-test Q (wrong_content_length p) (λ k. refused ContentLength) (λ k.
    by-test Q (wrong_fields p) (λ r. refused FieldRun) (λ r.
    message w
    (record {
      kind = bounds.0;
      least = bounds.1;
      most = bounds.2;
      tags = not-false (good_tags (extension_of p)) f;
      version = eqb-true (version_of p) 1 (not-false (eqb (version_of p) 1) v);
      letter = not-false (is_letter (letter_of p)) l;
      size =
          eqb-true (content_length_of p + 16) (body_length p) (not-false (eqb (content_length_of p + 16) (body_length p)) k);
      fields = not-false (exact_run (content_of p) (field_count_of p)) r;
    }))))))))))))

-- ─── Each place lies inside the packet ───

pub inside : (p : List ℕ) → Inside p (read_of p)
unfolding accepted_of said_length
inside p =
    read-cases p (Inside p) (λ m. tt) (λ r. tt) (λ w s. (refl, refl, w.there)) (λ w s g z. (omega arith, w.there))
    (λ w r. (omega arith, omega (arith, r.least), w.there))

-- ─── What was read, by its kind ───

pub record Accepted (p : List ℕ) (h : Header) (e c : Span) : Type 0 where
  pub whole : There p
  pub right : Right p
  pub header : h ≡ header_of p
  pub extent : e ≡ extension_span p
  pub content : c ≡ content_span p

-- Answers of two kinds differ.
abbrev which : Packet → ℕ
which (Short n) = 0
which (Link kind extension) = 1
which (Skipped kind extension body) = 2
which (Message h extension content) = 3
which (Refused r) = 4

pub accepted : (p : List ℕ) (h : Header) (x y : Span) → read_of p ≡ Message h x y → Accepted p h x y
unfolding accepted_of
accepted p h x y =
    read-cases p (λ z. z ≡ Message h x y → Accepted p h x y) (λ m e. absurd (omega (arith, ap which e)))
    (λ r e. absurd (omega (arith, ap which e)))
    (λ w s e. absurd (omega (arith, ap which e))) (λ w s g z e. absurd (omega (arith, ap which e)))
    (λ w r e. record { whole = w; right = r; header = cc; extent = cc; content = cc })

pub record Linked (p : List ℕ) (kind : ℕ) (e : Span) : Type 0 where
  pub whole : There p
  pub plain : is_skipped (kind_of p) (body_length p) ≡ false
  pub tags : good_tags (extension_of p) ≡ true
  pub body : body_length p ≡ 0
  pub type : kind ≡ kind_of p
  pub extent : e ≡ extension_span p

pub linked : (p : List ℕ) (kind : ℕ) (x : Span) → read_of p ≡ Link kind x → Linked p kind x
unfolding accepted_of
linked p kind x =
    read-cases p (λ z. z ≡ Link kind x → Linked p kind x) (λ m e. absurd (omega (arith, ap which e)))
    (λ r e. absurd (omega (arith, ap which e)))
    (λ w s e. absurd (omega (arith, ap which e)))
    (λ w s g z e. record { whole = w; plain = s; tags = g; body = z; type = cc; extent = cc })
    (λ w r e. absurd (omega (arith, ap which e)))

pub record Passed (p : List ℕ) (kind : ℕ) (e b : Span) : Type 0 where
  pub whole : There p
  pub skipped : is_skipped (kind_of p) (body_length p) ≡ true
  pub type : kind ≡ kind_of p
  pub extent : e ≡ extension_span p
  pub body : b ≡ span (body_start p) (body_length p)

pub passed : (p : List ℕ) (kind : ℕ) (x y : Span) → read_of p ≡ Skipped kind x y → Passed p kind x y
unfolding accepted_of
passed p kind x y =
    read-cases p (λ z. z ≡ Skipped kind x y → Passed p kind x y) (λ m e. absurd (omega (arith, ap which e)))
    (λ r e. absurd (omega (arith, ap which e)))
    (λ w s e. record { whole = w; skipped = s; type = cc; extent = cc; body = cc })
    (λ w s g z e. absurd (omega (arith, ap which e))) (λ w r e. absurd (omega (arith, ap which e)))

-- ─── Each kind exactly where the bytes are one ───

-- What is there whole is what the rest says.
there-read : (p : List ℕ) → There p → read_of p ≡ whole_of p
unfolding read_of rest_missing
there-read p w =
    rw (
      le-ltb (length p) 4 w.four,
      le-ltb 127 (extension_length p) w.extension,
      w.right,
      le-ltb (length p)
          (said_length p) w.there,
    )

-- Type and body alone, kind by kind.
message-body : (kind body : ℕ) → kind ≡ 1 → 16 ≤ body → body ≤ 4096
    → (wrong_body kind body ≡ false) × (is_skipped kind body ≡ false)
unfolding wrong_body is_skipped
message-body kind body k l m = (
  rw (eq-eqb kind 1 k, ne_eqb body 0 (λ z. omega arith), le-ltb body 16 l, le-ltb 4096 body m),
  rw
      (le-ltb 1 kind (omega arith), ne_eqb kind 0 (λ z. omega arith)),
)

link-body : (kind body : ℕ) → kind ≤ 1 → body ≡ 0 → (wrong_body kind body ≡ false) × (is_skipped kind body ≡ false)
unfolding wrong_body is_skipped
link-body kind body k z = (
  rw (eq-eqb body 0 z) (and-false (eqb kind 1)),
  rw (le-ltb 1 kind k, le-ltb 0 body (omega arith))
      (and-false (eqb kind 0)),
)

skipped-body : (kind body : ℕ) → ((kind ≡ 0) × (0 < body)) ⊎ (2 ≤ kind)
    → (wrong_body kind body ≡ false) × (is_skipped kind body ≡ true)
unfolding wrong_body is_skipped
skipped-body kind body (inl h) =
    let k = h.0 in
    (rw (ne_eqb kind 1 (λ z. omega arith)), rw (le-ltb 1 kind (omega arith), eq-eqb kind 0 k, lt-ltb 0 body h.1))
skipped-body kind body (inr h) = (rw (ne_eqb kind 1 (λ z. omega arith)), rw (lt-ltb 1 kind (omega arith)))

clash : {A : Type 0} → true ≡ false → A
clash x = let y : ◌≡◌ {A = ℕ} 0 1 = cc in absurd (omega arith)

plain-kind : (kind body : ℕ) → is_skipped kind body ≡ false → kind ≤ 1
unfolding is_skipped
plain-kind kind body = go (ltb 1 kind) refl
  where
    go : (a : Bool) → ltb 1 kind ≡ a → (a || (eqb kind 0 && ltb 0 body)) ≡ false → kind ≤ 1
    go true e s = clash s
    go false e s = ltb-false 1 kind e

skipped-kind : (kind body : ℕ) → is_skipped kind body ≡ true → ((kind ≡ 0) × (0 < body)) ⊎ (2 ≤ kind)
unfolding is_skipped
skipped-kind kind body = go (ltb 1 kind) refl (eqb kind 0) refl
  where
    go : (a : Bool) → ltb 1 kind ≡ a → (b : Bool) → eqb kind 0 ≡ b → (a || (b && ltb 0 body)) ≡ true
        → ((kind ≡ 0) × (0 < body)) ⊎ (2 ≤ kind)
    go true e b f s = inr (ltb-true 1 kind e)
    go false e true f s = inl (eqb-true kind 0 f, ltb-true 0 body s)
    go false e false f s = clash (sym s)

message-read : (p : List ℕ) → IsMessage p → read_of p ≡ accepted_of p
unfolding whole_of message_of
message-read p m =
    let b = message-body (kind_of p) (body_length p) m.type m.least m.most in
    let some : body_length p ≡ 0 → ⊥ = λ z. omega (arith, m.least) in
    there-read p (record { four = m.four; extension = m.extension; right = b.0; there = m.there })
    ∙ rw (
      b.1,
      m.tags,
      ne_eqb (body_length p) 0 some,
      eq-eqb (version_of p) 1 m.version,
      m.letter,
      eq-eqb (content_length_of p + 16) (body_length p) m.size,
      m.fields,
    )

link-read : (p : List ℕ) → IsLink p → read_of p ≡ Link (kind_of p) (extension_span p)
unfolding whole_of
link-read p m =
    let b = link-body (kind_of p) (body_length p) m.type m.empty in
    there-read p (record { four = m.four; extension = m.extension; right = b.0; there = m.there })
    ∙ rw (b.1, m.tags, eq-eqb (body_length p) 0 m.empty)

skipped-read : (p : List ℕ) → IsSkipped p
    → read_of p ≡ Skipped (kind_of p) (extension_span p) (span (body_start p) (body_length p))
unfolding whole_of
skipped-read p m =
    let b = skipped-body (kind_of p) (body_length p) m.type in
    there-read p (record { four = m.four; extension = m.extension; right = b.0; there = m.there }) ∙ rw b.1

module _ (p : List ℕ) where
  pub message : (read_of p ≡ accepted_of p) ↔ IsMessage p
  unfolding accepted_of
  message = (λ e. go (accepted p (header_of p) (extension_span p) (content_span p) e), message-read p)
    where
      go : Accepted p (header_of p) (extension_span p) (content_span p) → IsMessage p
      go a =
          let w = a.whole in
          let r = a.right in
          record {
            four = w.four;
            type = r.kind;
            extension = w.extension;
            least = r.least;
            most = r.most;
            there = w.there;
            tags = r.tags;
            version = r.version;
            letter = r.letter;
            size = r.size;
            fields = r.fields;
          }

  pub message-only : (h : Header) (x y : Span) → read_of p ≡ Message h x y → Message h x y ≡ accepted_of p
  unfolding accepted_of
  message-only h x y e =
      let a = accepted p h x y e in
      rw (a.header, a.extent, a.content)

  pub link : (read_of p ≡ Link (kind_of p) (extension_span p)) ↔ IsLink p
  link = (λ e. go (linked p (kind_of p) (extension_span p) e), link-read p)
    where
      go : Linked p (kind_of p) (extension_span p) → IsLink p
      go a =
          let w = a.whole in
          record {
            four = w.four;
            type = plain-kind (kind_of p) (body_length p) a.plain;
            extension = w.extension;
            empty = a.body;
            there = w.there;
            tags = a.tags;
          }

  pub link-only : (kind : ℕ) (x : Span) → read_of p ≡ Link kind x → Link kind x ≡ Link (kind_of p) (extension_span p)
  link-only kind x e =
      let a = linked p kind x e in
      rw (a.type, a.extent)

  pub skipped : (read_of p ≡ Skipped (kind_of p) (extension_span p) (span (body_start p) (body_length p))) ↔ IsSkipped p
  skipped = (λ e. go (passed p (kind_of p) (extension_span p) (span (body_start p) (body_length p)) e), skipped-read p)
    where
      go : Passed p (kind_of p) (extension_span p) (span (body_start p) (body_length p)) → IsSkipped p
      go a =
          let w = a.whole in
          record {
            four = w.four;
            type = skipped-kind (kind_of p) (body_length p) a.skipped;
            extension = w.extension;
            there = w.there;
          }

  pub skipped-only : (kind : ℕ) (x y : Span) → read_of p ≡ Skipped kind x y
      → Skipped kind x y ≡ Skipped (kind_of p) (extension_span p) (span (body_start p) (body_length p))
  skipped-only kind x y e =
      let a = passed p kind x y e in
      rw (a.type, a.extent, a.body)

-- ─── The parts, by the verdict ───

-- The bytes say what the verdict leaves out.
pub parts-read : (p : List ℕ) → parts_of p (verdict_of (read_of p)) ≡ read_of p
unfolding accepted_of
parts-read p =
    read-cases p (λ z. parts_of p (verdict_of z) ≡ z) (λ m. refl) (λ r. refl) (λ w s. refl) (λ w s g z. refl)
    (λ w r. refl)

module _ (p : List ℕ) (v : Verdict) (e : v ≡ verdict_of (read_of p)) where
  pub read_as : (w : Verdict) → v ≡ w → read_of p ≡ parts_of p w
  read_as w f = sym (parts-read p) ∙ ap (parts_of p) (sym e ∙ f)

  pub no_message : (v ≡ MessagePacket → ⊥) → (i : ℕ) → field_of p i ≡ None
  unfolding field_of
  no_message n i = go v refl
    where
      go : (w : Verdict) → v ≡ w → field_within p (read_of p) i ≡ None
      go TooFew f = rw (read_as TooFew f)
      go LinkPacket f = rw (read_as LinkPacket f)
      go SkippedPacket f = rw (read_as SkippedPacket f)
      go MessagePacket f = absurd (n f)
      go (Against r) f = rw (read_as (Against r) f)

  pub link-told : v ≡ LinkPacket → IsLink p
  link-told f = (link p).0 (read_as LinkPacket f)

  pub skipped-told : v ≡ SkippedPacket → IsSkipped p
  skipped-told f = (skipped p).0 (read_as SkippedPacket f)

  pub message-told : v ≡ MessagePacket → IsMessage p
  message-told f = (message p).0 (read_as MessagePacket f)

  pub content-told : v ≡ MessagePacket → (ext body : ℕ) → ext ≡ extension_length p → body ≡ body_length p
      → read_of p ≡ Message (header_of p) (extension_span p) (span (4 + ext + 16) (body - 16))
  unfolding accepted_of
  content-told f ext body a b = rw (a, b) (read_as MessagePacket f)

-- The bytes of a message packet are there, and its header's sixteen.
pub message-room : (p : List ℕ) (ext body : ℕ) → ext ≡ extension_length p → body ≡ body_length p → IsMessage p
    → SaysLengths p ext body × (4 + ext + body ≤ length p) × (16 ≤ body)
unfolding said_length
message-room p ext body a b m = ((a, b), rw (a, b) m.there, rw b m.least)

module _ (p : List ℕ) (y : Judged) (e : y ≡ judged_of p) where
  pub judged-verdict : y.verdict ≡ verdict_of (read_of p)
  unfolding judged_of judgement dated_of with_tags
  judged-verdict = ap (λ (j : Judged). j.verdict) e

  pub judged-parts : (w : Packet) → w ≡ parts_of p y.verdict
      → record { packet = w; date = y.date; place = y.place } ≡ dated_of p
  unfolding judged_of judgement dated_of with_tags
  judged-parts w f = rw (f, judged-verdict, parts-read p, e)

-- ─── Bytes behind a packet are not looked at ───

module _ (p q : List ℕ) (four : 4 ≤ length p) where
  kind-same : kind_of p ≡ kind_of (p ++ q)
  kind-same = sym (byte-append p q 0 (omega arith))

  said_same : SaysLengths (p ++ q) (extension_length p) (body_length p)
  said_same = (sym (byte-append p q 1 (omega arith)), sym (be16-append p q 2 (omega arith)))

  module _ (there : 4 + extension_length p + body_length p ≤ length p) (least : 16 ≤ body_length p) where
    byte-same : (i : ℕ) → i < 16 → get_or p (4 + extension_length p + i) 0 ≡ get_or (p ++ q) (4 + extension_length p + i) 0
    byte-same i h = sym (byte-append p q (4 + extension_length p + i) (omega arith))

    two-same : (i : ℕ) → i + 2 ≤ 16 → be16_of p (4 + extension_length p + i) ≡ be16_of (p ++ q) (4 + extension_length p + i)
    two-same i h = sym (be16-append p q (4 + extension_length p + i) (omega arith))

    four_same : (i : ℕ) → i + 4 ≤ 16 → be32_of p (4 + extension_length p + i) ≡ be32_of (p ++ q)
        (4 + extension_length p + i)
    four_same i h = sym (be32-append p q (4 + extension_length p + i) (omega arith))

    version-same : version_of p ≡ get_or (p ++ q) (4 + extension_length p) 0
    unfolding version_of
    version-same = sym (byte-append p q (4 + extension_length p) (omega arith))

    content-same : content_of p ≡ take (4 + extension_length p + body_length p - (4 + extension_length p + 16))
        (drop (4 + extension_length p + 16) (p ++ q))
    unfolding content_of
    content-same =
        let d : 4 + extension_length p + body_length p - (4 + extension_length p + 16) ≡ body_length p - 16 = omega arith in
        rw (d, part-append p q (4 + extension_length p + 16) (body_length p - 16) (omega arith))

    header-same : header_of p ≡ header_of (p ++ q)
    unfolding header_of tid_of letter_of series_of message_number_of field_count_of
    header-same =
        header_made (p ++ q) (extension_length p) said_same.0 _ _ _ _ _ (four_same 1 (omega arith))
        (ap chain_of (byte-same 5 (omega arith)))
        (two-same 6 (omega arith)) (four_same 8 (omega arith)) (two-same 12 (omega arith))

    accepted-same : accepted_of p ≡ accepted_of (p ++ q)
    unfolding accepted_of
    accepted-same = rw (← said_same.0, ← said_same.1, ← header-same)

    message-same : message_of p ≡ message_of (p ++ q)
    unfolding message_of letter_of content_length_of field_count_of
    message-same =
        let l = p ++ q in
        by-test (λ x. x ≡ message_of l) (wrong_version p)
        (λ v. version-wrong l _ _ said_same (λ e. eqb-false (version_of p) 1 (not-true _ v) (version-same ∙ e))) (λ v.
        let one : get_or l (4 + extension_length p) 0 ≡ 1 = sym version-same ∙ eqb-true (version_of p) 1 (not-false _ v) in
        let letter : is_letter (letter_of p) ≡ is_letter (get_or l (4 + extension_length p + 5) 0) =
        ap is_letter (byte-same 5 (omega arith)) in
        by-test (λ x. x ≡ message_of l) (wrong_letter p)
        (λ w. letter-wrong l _ _ said_same one _ letter (not-true _ w)) (λ w.
        let size = two-same 14 (omega arith) in
        by-test (λ x. x ≡ message_of l) (wrong_content_length p)
        (λ k. length-wrong l _ _ said_same one _ letter (not-false _ w) _ _ size refl
        (eqb-false _ (body_length p) (not-true _ k))) (λ k.
        let fits = eqb-true (content_length_of p + 16) (body_length p) (not-false _ k) in
        let count = two-same 12 (omega arith) in
        by-test (λ x. x ≡ message_of l) (wrong_fields p)
        (λ r. fields-wrong l _ _ said_same one _ letter (not-false _ w) _ _ size refl fits _ count _
        (ap (λ (c : List ℕ). exact_run c (field_count_of p)) content-same) (not-true _ r))
        (λ r. message-good l _ _ said_same one _ letter (not-false _ w) _ _ size refl fits _ count _
        (ap (λ (c : List ℕ). exact_run c (field_count_of p)) content-same) (not-false _ r) _ accepted-same))))

  tags-same : 4 + extension_length p ≤ length p
      → good_tags (extension_of p) ≡ good_tags (take (4 + extension_length p - 4) (drop 4 (p ++ q)))
  unfolding extension_of
  tags-same h =
      let d : 4 + extension_length p - 4 ≡ extension_length p = omega arith in
      rw (d, part-append p q 4 (extension_length p) h)

  whole_same : 4 + extension_length p + body_length p ≤ length p → wrong_body (kind_of p) (body_length p) ≡ false
      → whole_of p ≡ whole_of (p ++ q)
  unfolding whole_of
  whole_same there right =
      let l = p ++ q in
      let tags = tags-same (omega arith) in
      by-test (λ x. x ≡ whole_of l) (is_skipped (kind_of p) (body_length p))
      (λ s. whole-skipped l _ _ said_same _ kind-same _ refl s) (λ s.
      by-test (λ x. x ≡ whole_of l) (broken_tag p)
      (λ f. whole-broken l _ _ said_same _ kind-same _ refl s _ tags (not-true _ f)) (λ f.
      by-test (λ x. x ≡ whole_of l) (is_link p)
      (λ g. whole-link l _ _ said_same _ kind-same _ refl s _ tags (not-false _ f) (eqb-true (body_length p) 0 g)) (λ g.
      let some = eqb-false (body_length p) 0 g in
      whole-message l _ _ said_same _ kind-same _ refl s _ tags (not-false _ f) some _
      (message-same there (body-least (kind_of p) (body_length p) _ refl s right some)))))

pub stays : (p q : List ℕ) → is_short (read_of p) ≡ false → read_of (p ++ q) ≡ read_of p
unfolding read_of rest_missing said_length
stays p q =
    by-test P (head_missing p) (λ a e. clash e) (λ a.
    let four : 4 ≤ length p = ltb-false (length p) 4 a in
    let long : 4 ≤ length (p ++ q) = rw length-append (omega arith) in
    let said = said_same p q four in
    by-test P (long_extension p) (λ b e. sym (read-long l long _ said.0 (ltb-true 127 (extension_length p) b))) (λ b.
    let fits : extension_length p ≤ 127 = ltb-false 127 (extension_length p) b in
    by-test P (wrong_body (kind_of p) (body_length p))
    (λ c e. sym (read-body l long _ said.0 fits _ _ _ (kind-same p q four) said.1 refl _ refl c)) (λ c.
    by-test P (rest_missing p) (λ d e. clash e) (λ d e.
    let there : 4 + extension_length p + body_length p ≤ length p =
    ltb-false (length p) (4 + extension_length p + body_length p) d in
    let more : 4 + extension_length p + body_length p ≤ length (p ++ q) = rw length-append (omega arith) in
    sym (read-there l long _ said.0 fits _ _ _ (kind-same p q four) said.1 refl _ refl c more _
    (whole_same p q four there c))))))
  where
    l : List ℕ
    l = p ++ q

    P : Packet → Type 0
    P x = is_short x ≡ false → read_of (p ++ q) ≡ x

-- ─── Bytes still missing ───

-- Short, and what has led to it.
pub record Missing (p : List ℕ) (n : ℕ) : Type 0 where
  pub cut : IsShort p
  pub number : n ≡ missing_of p

pub missing : (p : List ℕ) (n : ℕ) → read_of p ≡ Short n → Missing p n
unfolding accepted_of
missing p n =
    read-cases p (λ z. z ≡ Short n → Missing p n)
    (λ m e. record { cut = m; number = cc })
    (λ r e. absurd (omega (arith, ap which e))) (λ w s e. absurd (omega (arith, ap which e)))
    (λ w s g z e. absurd (omega (arith, ap which e))) (λ w r e. absurd (omega (arith, ap which e)))

module _ (p : List ℕ) where
  short-read : IsShort p → read_of p ≡ Short (missing_of p)
  unfolding said_length
  short-read (inl h) = sym (read-head-missing p h)
  short-read (inr c) =
      sym (read-rest-missing p c.four _ refl c.extension _ _ _ refl refl refl _ refl c.body c.rest)

  pub exactly : (read_of p ≡ Short (missing_of p)) ↔ IsShort p
  exactly = (λ e. (missing p (missing_of p) e).cut, short-read)

  whole-there : is_short (whole_of p) ≡ false
  unfolding whole_of message_of accepted_of
  whole-there =
      by-test P (is_skipped (kind_of p) (body_length p)) (λ a. refl) (λ a.
      by-test P (broken_tag p) (λ b. refl) (λ b.
      by-test P (is_link p) (λ c. refl) (λ c.
      by-test P (wrong_version p) (λ d. refl) (λ d.
      by-test P (wrong_letter p) (λ e. refl) (λ e.
      by-test P (wrong_content_length p) (λ f. refl) (λ f.
      by-test P (wrong_fields p) (λ g. refl) (λ g. refl)))))))
    where
      P : Packet → Type 0
      P x = is_short x ≡ false

  pub unmoved : (short : Packet) → cond (is_short (read_of p)) short (read_of p) ≡ unnumbered short p
  unfolding read_of
  unmoved short =
      go (head_missing p) (long_extension p) (wrong_body (kind_of p) (body_length p)) (rest_missing p) (whole_of p) whole-there
    where
      chosen : Packet → Bool → Bool → Bool → Bool → Packet → Packet
      chosen s a b c d x = cond a s (cond b (Refused LongExtension) (cond c (Refused BodyLength) (cond d s x)))

      go : (a b c d : Bool) (x : Packet) → is_short x ≡ false
          → cond (is_short (chosen (Short (missing_of p)) a b c d x)) short (chosen (Short (missing_of p)) a b c d x)
          ≡ chosen short a b c d x
      go true b c d x w = refl
      go false true c d x w = refl
      go false false true d x w = refl
      go false false false true x w = refl
      go false false false false x w = rw w

pub head : (p : List ℕ) → length p < 4 → read_of p ≡ Short (4 - length p)
head p h = rw (head-number p h) (short-read p (inl h))

pub rest : (p : List ℕ) (n : ℕ) → 4 ≤ length p → read_of p ≡ Short n → length p + n ≡ said_length p
rest p n four e = let m = missing p n e in go m.cut m.number
  where
    go : IsShort p → n ≡ missing_of p → length p + n ≡ said_length p
    go (inl h) k = absurd (omega arith)
    go (inr c) k = omega (arith, c.rest, rest-number p four)

pub least : (p : List ℕ) (n : ℕ) → read_of p ≡ Short n → 1 ≤ n
least p n e = let m = missing p n e in rw m.number (go m.cut)
  where
    go : IsShort p → 1 ≤ missing_of p
    go (inl h) = rw (← (head-number p h)) (omega arith)
    go (inr c) = rw (← (rest-number p c.four)) (omega (arith, c.rest))

pub most : (p : List ℕ) (n : ℕ) → Bytes p → read_of p ≡ Short n → n ≤ 65662
unfolding said_length
most p n b e = let m = missing p n e in rw m.number (go m.cut)
  where
    go : IsShort p → missing_of p ≤ 65662
    go (inl h) = rw (← (head-number p h)) (omega arith)
    go (inr c) = rw (← (rest-number p c.four)) (omega (arith, c.four, c.extension, be16-width p b 2))

-- With bytes behind them: what the first four say stays, and so do the tests on them.
module _ (p more : List ℕ) where
  size : length (p ++ more) ≡ length p + length more
  size = length-append p more

  module _ (four : 4 ≤ length p) where
    said-stays : said_length (p ++ more) ≡ said_length p
    unfolding said_length
    said-stays = let s = said_same p more four in rw (← s.0, ← s.1)

    tests-stay : IsCut p → (4 ≤ length (p ++ more)) × (extension_length (p ++ more) ≤ 127)
        × (wrong_body (kind_of (p ++ more)) (body_length (p ++ more)) ≡ false)
    tests-stay c =
        let s = said_same p more four in (
          omega (arith, size),
          rw (← s.0) c.extension,
          rw (← (kind-same p more four), ← s.1) c.body,
        )

    cut-stays : IsCut p → length (p ++ more) < said_length p → IsCut (p ++ more)
    cut-stays c h =
        let t = tests-stay c in record { four = t.0; extension = t.1; body = t.2; rest = rw said-stays h }

    cut-ends : IsCut p → said_length p ≤ length (p ++ more) → There (p ++ more)
    cut-ends c h =
        let t = tests-stay c in record { four = t.0; extension = t.1; right = t.2; there = rw said-stays h }

  module _ (n : ℕ) (e : read_of p ≡ Short n) where
    pub again : length more < n → read_of (p ++ more) ≡ Short (n - length more)
    again h = let m = missing p n e in go m.cut m.number
      where
        go : IsShort p → n ≡ missing_of p → read_of (p ++ more) ≡ Short (n - length more)
        go (inl f) k =
            let few : length (p ++ more) < 4 = omega (arith, size, head-number p f) in
            short-read (p ++ more) (inl few) ∙ ap Short (omega (arith, size, head-number p f, head-number (p ++ more) few))
        go (inr c) k =
            let a = rest-number p c.four in
            let c2 = cut-stays c.four c (omega (arith, size, a)) in
            short-read (p ++ more) (inr c2)
            ∙ ap Short (omega (arith, size, a, said-stays c.four, rest-number (p ++ more) c2.four))

    pub enough : 4 ≤ length p → n ≤ length more → is_short (read_of (p ++ more)) ≡ false
    enough four h = let m = missing p n e in go m.cut m.number
      where
        go : IsShort p → n ≡ missing_of p → is_short (read_of (p ++ more)) ≡ false
        go (inl f) k = absurd (omega arith)
        go (inr c) k =
            rw (there-read (p ++ more) (cut-ends four c (omega (arith, size, rest-number p four)))) (whole-there (p ++ more))

    pub one : 4 ≤ length p → length more ≡ n → not_one_packet (p ++ more) ≡ false
    unfolding not_one_packet
    one four h =
        let r = rest p n four e in
        rw (
          le-ltb (length (p ++ more)) 4 (omega (arith, size)),
          eq-eqb (length (p ++ more)) (said_length (p ++ more)) (omega (arith, size, said-stays four)),
        )

    pub within : length p + n ≤ said_length (p ++ more)
    unfolding said_length
    within = let m = missing p n e in go m.cut m.number
      where
        go : IsShort p → n ≡ missing_of p → length p + n ≤ said_length (p ++ more)
        go (inl f) k = omega (arith, head-number p f)
        go (inr c) k = omega (arith, c.rest, rest-number p c.four, said-stays c.four)

short-laws : ShortLaws
short-laws =
    record {
      exactly = exactly;
      only = λ p n e. (missing p n e).number;
      head = head;
      rest = rest;
      unmoved = unmoved;
      least = least;
      most = most;
      again = again;
      enough = λ p more n four e h. enough p more n e four h;
      one = λ p more n four e h. one p more n e four h;
      within = within;
    }

-- ─── A value of the header fits its width ───

pub widths : (p : List ℕ) (h : Header) (x y : Span) → Bytes p → read_of p ≡ Message h x y → InWidth h
unfolding header_of tid_of series_of message_number_of field_count_of
widths p h x y b e =
    rw (accepted p h x y e).header
    (record { tid = be32-width p b _; series = be16-width p b _; number = be32-width p b _; fields = be16-width p b _ })

-- ─── The fields of a message packet ───

and_parts : (a b : Bool) → (a && b) ≡ true → (a ≡ true) × (b ≡ true)
and_parts true true e = (refl, refl)
and_parts true false e = (refl, e)
and_parts false b e = let z : ◌≡◌ {A = ℕ} 0 1 = cc in absurd (omega arith)

module _ (p : List ℕ) (h : Header) (x y : Span) (e : read_of p ≡ Message h x y) where
  content-is : part p y.start y.len ≡ content_of p
  unfolding content_of
  content-is = rw (accepted p h x y e).content

  fields-are : message_fields p ≡ fields_of (content_of p)
  unfolding message_fields
  fields-are = rw (e, content-is)

  run_is : (ended (run_of field (content_of p)) ≡ true) × (eqb (length (fields_of (content_of p))) (field_count_of p) ≡ true)
  unfolding exact_run
  run_is = and_parts _ _ (accepted p h x y e).right.fields

  pub whole : joined (message_fields p) ≡ part p y.start y.len
  whole = rw (fields-are, content-is) (run-whole field (content_of p) run_is.0)

  pub count : length (message_fields p) ≡ h.fields
  unfolding header_of
  count = rw (fields-are, (accepted p h x y e).header) (eqb-true _ _ run_is.1)

-- Field i of a list of fields that starts at a place.
place-some : (base : ℕ) (fs : List (List ℕ)) (i : ℕ) → i < length fs
    → field_in base fs i ≡ some_field (fid_of (get_or fs i [])) (base + length (joined (take i fs)) + 6)
    (length (get_or fs i []) - 6)
place-some base [] i h = absurd (omega arith)
place-some base (f ∷ fs) zero h = ap (λ (n : ℕ). some_field (fid_of f) (n + 6) (length f - 6)) (omega arith)
place-some base (f ∷ fs) (suc i) h =
    let k : base + length (f ++ joined (take i fs)) + 6 ≡ base + length f + length (joined (take i fs)) + 6 =
    rw length-append (omega arith) in
    rw k (place-some (base + length f) fs i (omega arith))

place_none : (base : ℕ) (fs : List (List ℕ)) (i : ℕ) → length fs ≤ i → field_in base fs i ≡ None
place_none base [] i h = refl
place_none base (f ∷ fs) zero h = absurd (omega arith)
place_none base (f ∷ fs) (suc i) h = place_none (base + length f) fs i (omega arith)

-- What is said of field i of a packet that has that many fields.
abbrev Found : List ℕ → List ℕ → MaybeField → Type 0
Found p f place = (start : ℕ) × (place ≡ some_field (fid_of f) start (length f - 6)) × (part_at p place ≡ bytes_of f)

module _ (p : List ℕ) (i : ℕ) where
  in-message : (h : Header) (x y : Span) → read_of p ≡ Message h x y → i < length (fields_within p (Message h x y))
      → Found p (get_or (fields_within p (Message h x y)) i []) (field_within p (Message h x y) i)
  unfolding field_place_of message_fields
  in-message h x y e k =
      let c : List ℕ = part p y.start y.len in
      let fs : List (List ℕ) = fields_of c in
      let f : List ℕ = get_or fs i [] in
      let a : ℕ = length (joined (take i fs)) in
      let w : joined fs ≡ c = rw e at (whole p h x y e) in
      let room : length c ≤ y.len = rw length-take (omega arith) in
      let fits : a + length f ≤ y.len = omega (arith, rw w at (joined-inside fs i k)) in
      let here : part p (y.start + a) (length f) ≡ f =
      sym (part-part p y.start y.len a (length f) fits) ∙ (rw w at (joined-part fs i k)) in
      let place = place-some 0 fs i k in
      let d : y.start + (0 + a + 6) ≡ y.start + a + 6 = omega arith in (
        y.start + (0 + a + 6),
        ap (moved_by y.start) place,
        ap (λ (x : MaybeField). part_at p (moved_by y.start x)) place
            ∙ ap (λ (n : ℕ). part p n (length f - 6)) d
            ∙ ap (take (length f - 6)) (sym (drop-drop 6 (y.start + a) p))
            ∙ sym (drop-part 6 (length f) (drop (y.start + a) p))
            ∙ ap (drop 6) here,
      )

  pub some : i < length (message_fields p)
      → (start : ℕ)
      × (field_of p i ≡ some_field (fid_of (get_or (message_fields p) i [])) start (length (get_or (message_fields p) i []) - 6))
      × (field_bytes p i ≡ bytes_of (get_or (message_fields p) i []))
  unfolding message_fields field_of field_bytes
  some = go (read_of p) refl
    where
      go : (x : Packet) → read_of p ≡ x → i < length (fields_within p x)
          → Found p (get_or (fields_within p x) i []) (field_within p x i)
      go (Short n) e k = absurd (omega arith)
      go (Link kind extension) e k = absurd (omega arith)
      go (Skipped kind extension body) e k = absurd (omega arith)
      go (Message h x y) e k = in-message h x y e k
      go (Refused r) e k = absurd (omega arith)

  pub none : length (message_fields p) ≤ i → (field_of p i ≡ None) × (field_bytes p i ≡ [])
  unfolding message_fields field_of field_bytes field_place_of
  none = go (read_of p)
    where
      go : (x : Packet) → length (fields_within p x) ≤ i
          → (field_within p x i ≡ None) × (part_at p (field_within p x i) ≡ [])
      go (Short n) k = (refl, refl)
      go (Link kind extension) k = (refl, refl)
      go (Skipped kind extension body) k = (refl, refl)
      go (Message h x y) k = (rw e, rw e)
        where
          e : field_in 0 (fields_of (part p y.start y.len)) i ≡ None
          e = place_none 0 (fields_of (part p y.start y.len)) i k
      go (Refused r) k = (refl, refl)

-- ─── What `find_field` answers ───

-- A message's content lies inside the packet.
pub content-inside : (p : List ℕ) (h : Header) (x y : Span) → read_of p ≡ Message h x y → y.start + y.len ≤ length p
content-inside p h x y e = let i = rw e at (inside p) in omega (arith, i.1, i.2)

module _ (p : List ℕ) (y : Span) (g : MaybeField) where
  content : List ℕ
  content = take (y.start + y.len - y.start) (drop y.start p)

  as-part : content ≡ part p y.start y.len
  unfolding content
  as-part =
      let d : y.start + y.len - y.start ≡ y.len = omega arith in
      rw d

  content-room : length content ≤ y.len
  content-room = rw (as-part, length-take) (omega arith)

  pub place-fits : FieldInside (take (y.start + y.len - y.start) (drop y.start p)) g → FitsIn y.len g
  unfolding content
  place-fits = go g
    where
      go : (x : MaybeField) → FieldInside content x → FitsIn y.len x
      go None k = tt
      go (Some found) k = omega (arith, content-room)

  pub field_found : (h : Header) (x : Span) (i : ℕ) (r : MaybeField) → read_of p ≡ Message h x y
      → g ≡ field_place_of (take (y.start + y.len - y.start) (drop y.start p)) i
      → FieldInside (take (y.start + y.len - y.start) (drop y.start p)) g
      → r ≡ moved_by y.start g → (r ≡ field_of p i) × FieldInside p r
  unfolding content field_of
  field_found h x i r e q k m = (m ∙ ap (moved_by y.start) (rw as-part at q) ∙ rw e, rw m (go g k))
    where
      go : (x : MaybeField) → FieldInside content x → FieldInside p (moved_by y.start x)
      go None k = tt
      go (Some found) k = omega (arith, content-room, content-inside p h x y e)

-- ─── All of it ───

pub read-laws : ReadLaws
read-laws =
    record {
      message = message;
      message-only = message-only;
      link = link;
      link-only = link-only;
      skipped = skipped;
      skipped-only = skipped-only;
      short = short-laws;
      stays = stays;
      inside = inside;
      widths = widths;
      whole = whole;
      count = count;
      some = some;
      none = none;
    }
