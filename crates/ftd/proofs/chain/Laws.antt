-- The laws of a message's packets. Assumes nothing.
use Prim.Native.Nat.{ℕ, zero, suc, ◌+◌, ◌*◌, ◌<◌, ◌≤◌}
use mathlib.Core.Path.{◌≡◌, refl, sym, ap, ◌∙◌}
use mathlib.Core.List.{List, [], ◌∷◌, ◌++◌, map, append_assoc, append-nil}
use mathlib.Core.Bool.{Bool, true, false, cond, ◌&&◌}
use native.Mathlib.Omega.{arith}
use native.Mathlib.Nat.{zero-mul, suc-mul}
use borrow.Author.Tests.{le-ltb, leb-true, leb-false, eq-eqb}
use lib.ListN.{length, get_or, take, length-append, length-take}
use lib.Seq.{get_or-take}
use lib.Dec.{leb, eqb, eqb-suc-suc, eqb-zero-suc}
use Rattle.ftd.specs.Bytes.{be16_of, be32_of, part, joined}
use Rattle.ftd.specs.Runs.{front, run_of, ended}
use Rattle.ftd.specs.Tags.{tag, length_right, known_tags, count_kind, good_tags, tag_place, trade_date_of}
use Rattle.ftd.specs.Tags.{packet_place_of, Tag, tag_bytes, tags_for, place_tag, extension_bytes}
use Rattle.ftd.specs.Fields.{field, fields_of, exact_run, all_small, shaped}
use Rattle.ftd.specs.Packet.{not_one_packet, no_message_packet, span, read_of, dated_of}
use Rattle.ftd.specs.Write.{packet_bytes, message_bytes, fine, message_verdict}
use Rattle.ftd.specs.Chain.{Piece, no_fields, with_field, pack, pieces_of, chain_at, header_for, packet_for, is_nil}
use Rattle.ftd.specs.Chain.{framed, packets_of, overhead_of, overhead, tags_at}
use Rattle.ftd.specs.Chain.Helpers.{size_of}
use Rattle.ftd.specs.Chain.Laws.{packet_form, piece_at_place, packet_at_place, letter_at, place_for, ChainLaws}
use Rattle.ftd.specs.Types.{TradeDate}
use Rattle.ftd.specs.declared.packet.Chain.{Chain}
use Rattle.ftd.specs.declared.packet.Packet.TheVariants.{Message as Read}
use Rattle.ftd.specs.declared.chain.Message.{Message}
use Rattle.ftd.proofs.Lists.{byte-append}
use Rattle.ftd.proofs.bytes.Numbers.{back16, back32}
use Rattle.ftd.proofs.runs.Laws.{run-joined, run-whole}
use Rattle.ftd.proofs.fields.Turns.{some-field}
use Rattle.ftd.proofs.tags.Turns.{some-tag}
use Rattle.ftd.proofs.runs.Heads.{front-whole}
use Rattle.ftd.proofs.runs.Joined.{Entry, Entries, run-of, Local, run-entries}
use Rattle.ftd.proofs.packet.Laws.{by-test}
use Rattle.ftd.proofs.write.Laws.{message-back, message-places, dated-back, message-one}
use Rattle.ftd.proofs.write.Puts.{length-packet, length-message}
use Rattle.ftd.proofs.chain.Pieces.{shaped-facts, framed-count, framed-size, pieces-some, some-length, tags-long}
use Rattle.ftd.proofs.chain.Singles.{exact-shaped, one_piece}
use Rattle.std.specs.Prelude.{Some, None}

-- ─── The trade date and the place ───

pub date-good : (d : TradeDate) → (good_tags (extension_bytes (tags_for d)) ≡ true)
    × (length (extension_bytes (tags_for d)) ≤ 6)
unfolding good_tags run_of tag front length_right known_tags count_kind
date-good None = (refl, omega arith)
date-good (Some d) = (refl, omega arith)

pub date-back : (d : TradeDate) → trade_date_of (extension_bytes (tags_for d)) ≡ d
unfolding trade_date_of tag_place run_of tag front be32_of
date-back None = refl
date-back (Some d) = ap Some (back32 d [])

pub no_place : (d : TradeDate) → packet_place_of (extension_bytes (tags_for d)) ≡ None
unfolding packet_place_of tag_place run_of tag front
no_place None = refl
no_place (Some d) = refl

module _ (j : ℕ) where
  -- By the trade date and whether the packets are counted.
  abbrev tags_by : TradeDate → Bool → List ℕ
  tags_by d b = extension_bytes (tags_for d ++ cond b (place_tag j ∷ []) [])

  by-good : (d : TradeDate) (b : Bool) → (good_tags (tags_by d b) ≡ true) × (length (tags_by d b) ≤ 10)
  unfolding good_tags run_of tag front length_right known_tags count_kind
  by-good None true = (refl, omega arith)
  by-good None false = (refl, omega arith)
  by-good (Some d) true = (refl, omega arith)
  by-good (Some d) false = (refl, omega arith)

  by-date : (d : TradeDate) (b : Bool) → trade_date_of (tags_by d b) ≡ d
  unfolding trade_date_of tag_place run_of tag front be32_of
  by-date None true = refl
  by-date None false = refl
  by-date (Some d) true = ap Some (back32 d (tag_bytes (place_tag j) ++ []))
  by-date (Some d) false = ap Some (back32 d [])

  by_place : (d : TradeDate) (b : Bool) → packet_place_of (tags_by d b) ≡ cond b (Some j) None
  unfolding packet_place_of tag_place run_of tag front be16_of
  by_place None true = ap Some (back16 j [])
  by_place None false = refl
  by_place (Some d) true = ap Some (back16 j [])
  by_place (Some d) false = refl

module _ (m : Message) (j : ℕ) where
  pub at-good : (good_tags (extension_bytes (tags_at m j)) ≡ true) × (length (extension_bytes (tags_at m j)) ≤ 10)
  at-good = by-good j m.date m.counted

  pub at-date : trade_date_of (extension_bytes (tags_at m j)) ≡ m.date
  at-date = by-date j m.date m.counted

  pub at_place : packet_place_of (extension_bytes (tags_at m j)) ≡ place_for m j
  at_place = by_place j m.date m.counted

-- ─── Fields are entries ───

field-local : Local field
unfolding field be16_of
field-local l r n h k =
    let long : length (take n l) ≡ n = rw length-take (omega arith) in
    rw (
      byte-append (take n l) r 4 (omega arith),
      byte-append (take n l) r 5 (omega arith),
      get_or-take {A = ℕ} n l 4 0
          (omega arith),
      get_or-take {A = ℕ} n l 5 0 (omega arith),
    )

pub fields-entries : (content : List ℕ) → Entries field (fields_of content)
fields-entries content = run-entries field some-field field-local content

-- ─── Pieces ───

-- A piece of so many whole fields that a packet holds.
abbrev Good : Piece → Type 0
Good p = (length p.bytes ≤ 4080) × (exact_run p.bytes p.count ≡ true)

abbrev AllGood : List Piece → Type 0
AllGood [] = Unit
AllGood (p ∷ ps) = Good p × AllGood ps

pub joined-append : (a b : List (List ℕ)) → joined (a ++ b) ≡ joined a ++ joined b
joined-append [] b = refl
joined-append (x ∷ a) b = rw (joined-append a b) (sym (append_assoc x (joined a) (joined b)))

pub entries-snoc : (es : List (List ℕ)) (e : List ℕ) → Entries field es → Entry field e → Entries field (es ++ (e ∷ []))
entries-snoc [] e a b = (b, tt)
entries-snoc (x ∷ es) e a b = (a.0, entries-snoc es e a.1 b)

-- A piece made of entries is so many whole fields.
exact-entries : (gs : List (List ℕ)) → Entries field gs → exact_run (joined gs) (length gs) ≡ true
unfolding exact_run
exact-entries gs a = rw (run-of field some-field gs a, eq-eqb (length gs) (length gs) refl)

-- A piece, and the fields that it is made of.
pub record Made (p : Piece) (gs : List (List ℕ)) : Type 0 where
  pub bytes : p.bytes ≡ joined gs
  pub count : p.count ≡ length gs
  pub each : Entries field gs
  pub small : length p.bytes ≤ 4080

good-made : (p : Piece) (gs : List (List ℕ)) → Made p gs → Good p
good-made p gs m = (m.small, rw (m.bytes, m.count) (exact-entries gs m.each))

with-made : (p : Piece) (gs : List (List ℕ)) (f : List ℕ) → Made p gs → Entry field f
    → length p.bytes + length f ≤ 4080 → Made (with_field p f) (gs ++ (f ∷ []))
with-made p gs f m e h =
    record {
      bytes = rw (m.bytes, joined-append gs (f ∷ []), append-nil f);
      count = rw (m.count, length-append gs (f ∷ []));
      each = entries-snoc gs f m.each e;
      small = rw length-append h;
    }

none_made : Made no_fields []
none_made = record { bytes = refl; count = refl; each = tt; small = omega arith }

small-parts : (f : List ℕ) (fs : List (List ℕ)) → all_small (f ∷ fs) ≡ true → (length f ≤ 4080) × (all_small fs ≡ true)
small-parts f fs = go (leb (length f) 4080) refl
  where
    go : (b : Bool) → leb (length f) 4080 ≡ b → (b && all_small fs) ≡ true → (length f ≤ 4080) × (all_small fs ≡ true)
    go true e t = (leb-true (length f) 4080 e, t)
    go false e t = let y : ◌≡◌ {A = ℕ} 0 1 = cc in absurd (omega arith)

pack-good : (p : Piece) (gs fs : List (List ℕ)) → Made p gs → Entries field fs → all_small fs ≡ true
    → AllGood (pack p fs)
pack-good p gs [] m a s = (good-made p gs m, tt)
pack-good p gs (f ∷ fs) m a s =
    let k = small-parts f fs s in
    by-test AllGood (leb (length p.bytes + length f) 4080)
    (λ b. pack-good (with_field p f) (gs ++ (f ∷ [])) fs
    (with-made p gs f m a.0 (leb-true (length p.bytes + length f) 4080 b)) a.1 k.1)
    (λ b. (
      good-made p gs m,
      pack-good (with_field no_fields f) (f ∷ []) fs
          (with-made no_fields [] f none_made a.0 (omega (arith, k.0))) a.1 k.1,
    ))

and_both : (a b : Bool) → (a && b) ≡ true → (a ≡ true) × (b ≡ true)
and_both true b e = (refl, e)
and_both false b e = let y : ◌≡◌ {A = ℕ} 0 1 = cc in absurd (omega arith)

module _ (content : List ℕ) (limit : ℕ) (s : shaped content limit ≡ true) where
  whole-content : (ended (run_of field content) ≡ true) × (all_small (fields_of content) ≡ true)
  whole-content = and_both _ _ (shaped-facts content limit true (sym s) refl).1

  pieces-good : AllGood (pieces_of content)
  unfolding pieces_of
  pieces-good = pack-good no_fields [] (fields_of content) none_made (fields-entries content) whole-content.1

good-at : (ps : List Piece) (i : ℕ) → AllGood ps → i < length ps → Good (get_or ps i no_fields)
good-at [] i a h = absurd (omega arith)
good-at (p ∷ ps) zero a h = a.0
good-at (p ∷ ps) (suc i) a h = good-at ps i a.1 (omega arith)

pack-joined : (p : Piece) (fs : List (List ℕ))
    → joined (map (λ (x : Piece). x.bytes) (pack p fs)) ≡ p.bytes ++ joined fs
pack-joined p [] = refl
pack-joined p (f ∷ fs) =
    by-test (λ (ps : List Piece). joined (map (λ (x : Piece). x.bytes) ps) ≡ p.bytes ++ (f ++ joined fs))
    (leb (length p.bytes + length f) 4080)
    (λ b. pack-joined (with_field p f) fs ∙ append_assoc p.bytes f (joined fs))
    (λ b. ap (λ (l : List ℕ). p.bytes ++ l) (pack-joined (with_field no_fields f) fs))

pieces-joined : (content : List ℕ) (limit : ℕ) → shaped content limit ≡ true
    → joined (map (λ (p : Piece). p.bytes) (pieces_of content)) ≡ content
unfolding pieces_of
pieces-joined content limit s =
    pack-joined no_fields (fields_of content) ∙ run-whole field content (whole-content content limit s).0

-- A piece and the first field of the next have more than 4,080 bytes.
pack-few : (p : Piece) (fs : List (List ℕ))
    → 4081 * length (pack p fs) ≤ 4081 + length p.bytes + 2 * length (joined fs)
pack-few p [] = omega arith
pack-few p (f ∷ fs) =
    by-test (λ (ps : List Piece). 4081 * length ps ≤ 4081 + length p.bytes + 2 * length (f ++ joined fs))
    (leb (length p.bytes + length f) 4080)
    (λ b. omega (arith, pack-few (with_field p f) fs, length-append p.bytes f, length-append f (joined fs)))
    (λ b. omega (
      arith,
      leb-false (length p.bytes + length f) 4080 b,
      pack-few (with_field no_fields f) fs,
      length-append f
          (joined fs),
    ))

few : (content : List ℕ) → length content ≤ 32768 → length (pieces_of content) ≤ 17
unfolding pieces_of
few content h =
    let whole =
    sym (length-append (joined (fields_of content)) (run_of field content).rest)
    ∙ ap length (run-joined field content) in
    omega (arith, whole, pack-few no_fields (fields_of content))

-- ─── Packets by place ───

letter-first : (j : ℕ) (p : Piece) (ps : List Piece)
    → chain_at (eqb j 0) (is_nil ps) ≡ chain_at (eqb j 0) (eqb (0 + 1) (length (p ∷ ps)))
letter-first j p [] = refl
letter-first j p (x ∷ ps) = rw (eqb-suc-suc 0 (suc (length ps)), eqb-zero-suc (length ps))

framed_at : (m : Message) (j : ℕ) (ps : List Piece) (i : ℕ) → i < length ps
    → get_or (framed m j ps) i [] ≡ packet_for m (j + i) (chain_at (eqb (j + i) 0) (eqb (i + 1) (length ps)))
    (get_or ps i no_fields)
framed_at m j [] i h = absurd (omega arith)
framed_at m j (p ∷ ps) zero h =
    let e : j + 0 ≡ j = omega arith in rw e (ap (λ (c : Chain). packet_for m j c p) (letter-first j p ps))
framed_at m j (p ∷ ps) (suc i) h =
    let e : suc j + i ≡ j + suc i = omega arith in
    let f : suc i + 1 ≡ suc (i + 1) = omega arith in
    rw (f, eqb-suc-suc (i + 1) (length ps))
    (framed_at m (suc j) ps i (omega arith)
    ∙ ap (λ (n : ℕ). packet_for m n (chain_at (eqb n 0) (eqb (i + 1) (length ps))) (get_or ps i no_fields)) e)

module _ (m : Message) (content : List ℕ) where
  as_many : (length (packets_of m content) ≡ length (pieces_of content)) × (0 < length (packets_of m content))
  unfolding packets_of
  as_many = (
    framed-count m 0 (pieces_of content),
    rw (framed-count m 0 (pieces_of content))
        (some-length (pieces_of content) (pieces-some content)),
  )

  packet-at : (i : ℕ) → i < length (packets_of m content)
      → packet_at_place m content i ≡ packet_for m i (letter_at m content i) (piece_at_place content i)
  unfolding packets_of
  packet-at i h =
      let k : i < length (pieces_of content) = rw (framed-count m 0 (pieces_of content)) at h in
      let z : 0 + i ≡ i = omega arith in
      rw (framed-count m 0 (pieces_of content)) (rw z at (framed_at m 0 (pieces_of content) i k))

  -- It is written without refusal, and read back.
  packet-fine : (limit i : ℕ) → shaped content limit ≡ true → i < length (packets_of m content)
      → message_verdict (header_for m (letter_at m content i) (piece_at_place content i).count)
      (extension_bytes (tags_at m i)) (piece_at_place content i).bytes ≡ fine
  unfolding message_verdict header_for
  packet-fine limit i s h =
      let k : i < length (pieces_of content) = rw as_many.0 at h in
      let good = good-at (pieces_of content) i (pieces-good content limit s) k in
      let tags = at-good m i in
      rw (
        le-ltb 127 (length (extension_bytes (tags_at m i))) (omega (arith, tags.1)),
        le-ltb 4080
            (length (piece_at_place content i).bytes) good.0,
        tags.0,
        good.1,
      )

  read_back : (limit i : ℕ) (q : List ℕ) → shaped content limit ≡ true → i < length (packets_of m content)
      → read_of (packet_at_place m content i ++ q)
      ≡ Read (header_for m (letter_at m content i) (piece_at_place content i).count)
      (span 4 (length (extension_bytes (tags_at m i))))
      (span (4 + length (extension_bytes (tags_at m i)) + 16) (length (piece_at_place content i).bytes))
  unfolding packet_for
  read_back limit i q s h =
      rw (packet-at i h)
      (message-back (header_for m (letter_at m content i) (piece_at_place content i).count)
      (extension_bytes (tags_at m i)) (piece_at_place content i).bytes q (packet-fine limit i s h))

  trade-date-back : (i : ℕ) (q : List ℕ) → i < length (packets_of m content)
      → trade_date_of (part (packet_at_place m content i ++ q) 4 (length (extension_bytes (tags_at m i)))) ≡ m.date
  unfolding packet_for
  trade-date-back i q h =
      rw (
        packet-at i h,
        (message-places (header_for m (letter_at m content i) (piece_at_place content i).count)
            (extension_bytes (tags_at m i)) (piece_at_place content i).bytes q).0,
      )
      (at-date m i)

  place-back : (i : ℕ) (q : List ℕ) → i < length (packets_of m content)
      → packet_place_of (part (packet_at_place m content i ++ q) 4 (length (extension_bytes (tags_at m i)))) ≡ place_for m i
  unfolding packet_for
  place-back i q h =
      rw (
        packet-at i h,
        (message-places (header_for m (letter_at m content i) (piece_at_place content i).count)
            (extension_bytes (tags_at m i)) (piece_at_place content i).bytes q).0,
      )
      (at_place m i)

  piece_back : (i : ℕ) (q : List ℕ) → i < length (packets_of m content)
      → part (packet_at_place m content i ++ q) (4 + length (extension_bytes (tags_at m i)) + 16)
      (length (piece_at_place content i).bytes) ≡ (piece_at_place content i).bytes
  unfolding packet_for
  piece_back i q h =
      rw (packet-at i h)
      (message-places (header_for m (letter_at m content i) (piece_at_place content i).count)
      (extension_bytes (tags_at m i)) (piece_at_place content i).bytes q).1

  packet-dated : (limit i : ℕ) (q : List ℕ) → shaped content limit ≡ true → i < length (packets_of m content)
      → dated_of (packet_at_place m content i ++ q)
      ≡ record {
        packet =
            Read (header_for m (letter_at m content i) (piece_at_place content i).count)
            (span 4 (length (extension_bytes (tags_at m i))))
            (span (4 + length (extension_bytes (tags_at m i)) + 16) (length (piece_at_place content i).bytes));
        date = m.date;
        place = place_for m i;
      }
  unfolding packet_for
  packet-dated limit i q s h =
      rw (packet-at i h)
      (dated-back (header_for m (letter_at m content i) (piece_at_place content i).count)
      (extension_bytes (tags_at m i)) (piece_at_place content i).bytes q (packet-fine limit i s h)
      ∙ rw (at-date m i, at_place m i))

  packet-one : (limit i : ℕ) → shaped content limit ≡ true → i < length (packets_of m content)
      → (not_one_packet (packet_at_place m content i) ≡ false) × (no_message_packet (packet_at_place m content i) ≡ false)
  unfolding packet_for
  packet-one limit i s h =
      rw (packet-at i h)
      (message-one (header_for m (letter_at m content i) (piece_at_place content i).count)
      (extension_bytes (tags_at m i)) (piece_at_place content i).bytes (packet-fine limit i s h))

-- ─── Cut by the first four bytes ───

packet-follows : (kind : ℕ) (extension body r : List ℕ)
    → packet_form.head + packet_form.follow (packet_bytes kind extension body ++ r) ≡ 4 + length extension + length body
unfolding packet_form packet_bytes be16_of
packet-follows kind extension body r = omega arith

packet-entry : (kind : ℕ) (extension body : List ℕ) → Entry packet_form (packet_bytes kind extension body)
packet-entry kind extension body =
    record {
      some = rw length-packet (omega arith);
      stands =
          λ r.
          let e = packet-follows kind extension body r in
          front-whole packet_form (packet_bytes kind extension body ++ r)
          (rw (e, length-append (packet_bytes kind extension body) r, length-packet) (omega arith))
          ∙ e ∙ sym (length-packet kind extension body);
    }

framed-entries : (m : Message) (j : ℕ) (ps : List Piece) → Entries packet_form (framed m j ps)
unfolding packet_for message_bytes
framed-entries m j [] = tt
framed-entries m j (p ∷ ps) = (packet-entry 1 (extension_bytes (tags_at m j)) _, framed-entries m (suc j) ps)

some-packet : 0 < packet_form.head
unfolding packet_form
some-packet = omega arith

cut-back : (m : Message) (content : List ℕ)
    → run_of packet_form (joined (packets_of m content)) ≡ record { entries = packets_of m content; rest = [] }
unfolding packets_of
cut-back m content =
    run-of packet_form some-packet (framed m 0 (pieces_of content)) (framed-entries m 0 (pieces_of content))

-- ─── What packets take ───

overhead-is : (m : Message) → overhead_of m ≡ 4 + length (extension_bytes (tags_at m 0)) + 16
unfolding overhead_of
overhead-is m = refl

size-around : (m : Message) (ps : List Piece)
    → size_of (length (extension_bytes (tags_at m 0))) ps
    ≡ length (joined (map (λ (p : Piece). p.bytes) ps)) + length ps * overhead_of m
size-around m [] = rw (zero-mul (overhead_of m)) refl
size-around m (p ∷ ps) =
    rw (
      length-append p.bytes (joined (map (λ (x : Piece). x.bytes) ps)),
      suc-mul (length ps) (overhead_of m),
      size-around m ps,
    )
    (omega (arith, overhead-is m))

takes : (m : Message) (content : List ℕ) (limit : ℕ) → shaped content limit ≡ true
    → length (joined (packets_of m content)) ≡ length content + length (packets_of m content) * overhead_of m
unfolding packets_of
takes m content limit s =
    framed-size m 0 (pieces_of content) ∙ size-around m (pieces_of content)
    ∙ rw (pieces-joined content limit s, framed-count m 0 (pieces_of content))

packet-takes : (m : Message) (content : List ℕ) (i : ℕ) → i < length (packets_of m content)
    → length (packet_at_place m content i) ≡ overhead_of m + length (piece_at_place content i).bytes
unfolding packet_for
packet-takes m content i h =
    rw (packet-at m content i h, length-message, overhead-is) (omega (arith, tags-long m i))

around : (m : Message) → overhead_of m ≤ overhead
unfolding overhead_of overhead
around m = let a = (at-good m 0).1 in omega arith

-- ─── Tags ───

tag-follows : (t : Tag) (r : List ℕ) → tag.head + tag.follow (tag_bytes t ++ r) ≡ 2 + length t.value
unfolding tag
tag-follows t r = refl

two-more : (n : ℕ) → 2 + n ≡ suc (suc n)
two-more n = omega arith

tags-entries : (ts : List Tag) → Entries tag (map tag_bytes ts)
tags-entries [] = tt
tags-entries (t ∷ ts) = (
  record {
    some = omega arith;
    stands =
        λ r. front-whole tag (tag_bytes t ++ r) (rw (tag-follows t r, length-append (tag_bytes t) r) (omega arith))
        ∙ tag-follows t r ∙ two-more (length t.value);
  },
  tags-entries ts,
)

tags-back : (ts : List Tag) → run_of tag (extension_bytes ts) ≡ record { entries = map tag_bytes ts; rest = [] }
tags-back ts = run-of tag some-tag (map tag_bytes ts) (tags-entries ts)

-- ─── All of it ───

pub chain_laws : ChainLaws
chain_laws =
    record {
      tags-back = tags-back;
      tags-good = λ d. (date-good d).0;
      tags-date = date-back;
      tags-unplaced = no_place;
      at-good = λ m j. (at-good m j).0;
      at-date = at-date;
      at_place = at_place;
      at_long = tags-long;
      exact = exact-shaped;
      single = one_piece;
      pieces-joined = pieces-joined;
      piece-whole = λ content limit i s h. good-at (pieces_of content) i (pieces-good content limit s) h;
      as_many = as_many;
      few = few;
      packet-takes = packet-takes;
      takes = takes;
      around = around;
      read_back = read_back;
      trade-date-back = trade-date-back;
      place-back = place-back;
      piece_back = piece_back;
      dated-back = packet-dated;
      one-packet = packet-one;
      cut-back = cut-back;
    }
