-- What each way through the reading functions decides, over plain variables. Assumes nothing.
use Prim.Native.Nat.{ℕ, ◌+◌, ◌-◌, ◌<◌, ◌≤◌}
use mathlib.Core.Path.{◌≡◌, refl, sym, ◌∙◌}
use mathlib.Core.List.{List}
use mathlib.Core.Bool.{Bool, true, false, ◌&&◌, ◌||◌}
use native.Mathlib.Omega.{arith}
use borrow.Author.Tests.{lt-ltb, le-ltb, le-leb, eq-eqb, ne_eqb, ltb-false, eqb-true, eqb-false}
use lib.ListN.{length, get_or, take, drop}
use lib.Dec.{ltb, eqb}
use Rattle.ftd.specs.Bytes.{be16_of, be32_of}
use Rattle.ftd.specs.Tags.{good_tags}
use Rattle.ftd.specs.Fields.{exact_run}
use Rattle.ftd.specs.Packet.{kind_of, body_length, extension_length, extension_of, version_of, tid_of, letter_of}
use Rattle.ftd.specs.Packet.{series_of, message_number_of, field_count_of, content_length_of, content_of, wrong_body}
use Rattle.ftd.specs.Packet.{is_skipped, rest_missing, missing_of, said_length, said_in, is_letter, span, chain_of}
use Rattle.ftd.specs.Packet.{header_of, accepted_of, message_of, whole_of, read_of, with_tags, judgement}
use Rattle.ftd.specs.Packet.Helpers.{SaysLengths}
use Rattle.ftd.specs.declared.refusal.Refusal.TheVariants.{LongExtension, BrokenTag, BodyLength, Version}
use Rattle.ftd.specs.declared.refusal.Refusal.TheVariants.{ChainLetter, ContentLength, FieldRun}
use Rattle.ftd.specs.Types.{TradeDate}
use Rattle.ftd.specs.Types.{PacketPlace}
use Rattle.ftd.specs.declared.packet.Chain.{Chain}
use Rattle.ftd.specs.declared.packet.Header.{Header}
use Rattle.ftd.specs.declared.packet.Verdict.TheVariants.{MessagePacket}
use Rattle.ftd.specs.declared.packet.Packet.{Packet}
use Rattle.ftd.specs.declared.packet.Packet.TheVariants.{Short, Link, Skipped, Message, Refused}

pub header_made : (p : List ℕ) (ext : ℕ) → ext ≡ extension_length p
    → (tid : ℕ) (chain : Chain) (series number fields : ℕ) → tid ≡ be32_of p (4 + ext + 1)
    → chain ≡ chain_of (get_or p (4 + ext + 5) 0) → series ≡ be16_of p (4 + ext + 6) → number ≡ be32_of p (4 + ext + 8)
    → fields ≡ be16_of p (4 + ext + 12)
    → record { tid = tid; chain = chain; series = series; number = number; fields = fields } ≡ header_of p
unfolding header_of tid_of letter_of series_of message_number_of field_count_of
header_made p ext x tid chain series number fields a b c d e = rw (← x, a, b, c, d, e)

module _ (p : List ℕ) (ext body : ℕ) (said : SaysLengths p ext body) where
  pub accepted-made : (h : Header) → h ≡ header_of p
      → Message h (span 4 ext) (span (4 + ext + 16) (body - 16)) ≡ accepted_of p
  unfolding accepted_of
  accepted-made h e = rw (← said.0, ← said.1, e)

  pub version-wrong : (get_or p (4 + ext) 0 ≡ 1 → ⊥) → Refused Version ≡ message_of p
  unfolding message_of version_of
  version-wrong v = rw (← said.0, ne_eqb _ _ v)

  module _ (v : get_or p (4 + ext) 0 ≡ 1) (letter : Bool) (l : letter ≡ is_letter (get_or p (4 + ext + 5) 0)) where
    pub letter-wrong : letter ≡ false → Refused ChainLetter ≡ message_of p
    unfolding message_of version_of letter_of
    letter-wrong w = rw (← said.0, eq-eqb _ _ v, ← l, w)

    module _ (right : letter ≡ true) (n m : ℕ) (q : n ≡ be16_of p (4 + ext + 14)) (r : m ≡ n) where
      pub length-wrong : (m + 16 ≡ body → ⊥) → Refused ContentLength ≡ message_of p
      unfolding message_of version_of letter_of content_length_of
      length-wrong w = rw (← said.0, ← said.1, eq-eqb _ _ v, ← l, right, ← q, ← r, ne_eqb _ _ w)

      module _ (e : m + 16 ≡ body) (count : ℕ) (k : count ≡ be16_of p (4 + ext + 12)) (whole : Bool)
          (x : whole ≡ exact_run (take (4 + ext + body - (4 + ext + 16)) (drop (4 + ext + 16) p)) count) where
        same : whole ≡ exact_run (take (body - 16) (drop (4 + ext + 16) p)) (be16_of p (4 + ext + 12))
        same =
            let d : 4 + ext + body - (4 + ext + 16) ≡ body - 16 = omega arith in
            rw (← k, ← d) x

        pub fields-wrong : whole ≡ false → Refused FieldRun ≡ message_of p
        unfolding message_of version_of letter_of content_length_of content_of field_count_of
        fields-wrong w = rw (← said.0, ← said.1, eq-eqb _ _ v, ← l, right, ← q, ← r, eq-eqb _ _ e, ← same, w)

        pub message-good : whole ≡ true → (answer : Packet) → answer ≡ accepted_of p → answer ≡ message_of p
        unfolding message_of version_of letter_of content_length_of content_of field_count_of
        message-good w answer g =
            rw (← said.0, ← said.1, eq-eqb _ _ v, ← l, right, ← q, ← r, eq-eqb _ _ e, ← same, w) g

        -- With what its extension bears.
        pub message-tagged : whole ≡ true → (d : TradeDate) (j : PacketPlace)
            → record { verdict = MessagePacket; date = d; place = j } ≡ judgement (with_tags (message_of p) d j)
        unfolding judgement with_tags accepted_of
        message-tagged w d j = rw (← (message-good w (accepted_of p) refl))

  module _ (kind : ℕ) (a : kind ≡ kind_of p) (skipped : Bool) (s : skipped ≡ is_skipped kind body) where
    pub whole-skipped : skipped ≡ true → Skipped kind (span 4 ext) (span (4 + ext) body) ≡ whole_of p
    unfolding whole_of
    whole-skipped w = rw (← said.0, ← said.1, ← a, ← s, w)

    module _ (not-skipped : skipped ≡ false) (good : Bool) (g : good ≡ good_tags (take (4 + ext - 4) (drop 4 p))) where
      tags-same : good ≡ good_tags (take ext (drop 4 p))
      tags-same =
          let d : 4 + ext - 4 ≡ ext = omega arith in
          rw (← d) g

      pub whole-broken : good ≡ false → Refused BrokenTag ≡ whole_of p
      unfolding whole_of extension_of
      whole-broken w = rw (← said.0, ← said.1, ← a, ← s, not-skipped, ← tags-same, w)

      pub whole-link : good ≡ true → body ≡ 0 → Link kind (span 4 ext) ≡ whole_of p
      unfolding whole_of extension_of
      whole-link w z = rw (← said.0, ← said.1, ← a, ← s, not-skipped, ← tags-same, w, eq-eqb _ _ z)

      pub whole-message : good ≡ true → (body ≡ 0 → ⊥) → (r : Packet) → r ≡ message_of p → r ≡ whole_of p
      unfolding whole_of extension_of
      whole-message w z r m = rw (← said.0, ← said.1, ← a, ← s, not-skipped, ← tags-same, w, ne_eqb _ _ z) m

-- A packet with a body that is neither skipped nor refused with 3 is of type 0x01, and its body has 16 to 4,096 bytes.
pub body-bounds : (kind body : ℕ) (skipped : Bool) → skipped ≡ is_skipped kind body → skipped ≡ false
    → wrong_body kind body ≡ false → (body ≡ 0 → ⊥)
    → (kind ≡ 1) × (16 ≤ body) × (body ≤ 4096)
unfolding is_skipped wrong_body
body-bounds kind body skipped s n w z =
    go (ltb 1 kind) refl (eqb kind 0) refl (eqb kind 1) refl (ltb body 16) refl (sym s ∙ n) (rw (ne_eqb body 0 z) at w)
  where
    clash : true ≡ false → ⊥
    clash x = let y : ◌≡◌ {A = ℕ} 0 1 = cc in omega arith

    go : (a : Bool) → ltb 1 kind ≡ a → (b : Bool) → eqb kind 0 ≡ b → (c : Bool) → eqb kind 1 ≡ c → (d : Bool)
        → ltb body 16 ≡ d
        → (a || (b && ltb 0 body)) ≡ false → (c && (true && (d || ltb 4096 body))) ≡ false
        → (kind ≡ 1) × (16 ≤ body) × (body ≤ 4096)
    go true e b f c g d h p q = absurd (clash p)
    go false e true f c g d h p q = absurd (z (omega (arith, ltb-false 0 body p)))
    go false e false f true g true h p q = absurd (clash q)
    go false e false f true g false h p q = (eqb-true kind 1 g, ltb-false body 16 h, ltb-false 4096 body q)
    go false e false f false g d h p q =
        absurd (omega (arith, ltb-false 1 kind e, eqb-false kind 0 f, eqb-false kind 1 g))

pub body-least : (kind body : ℕ) (skipped : Bool) → skipped ≡ is_skipped kind body → skipped ≡ false
    → wrong_body kind body ≡ false → (body ≡ 0 → ⊥)
    → 16 ≤ body
body-least kind body skipped s n w z = (body-bounds kind body skipped s n w z).1

-- How many bytes are missing.
module _ (p : List ℕ) where
  pub head-number : length p < 4 → 4 - length p ≡ missing_of p
  unfolding missing_of
  head-number h = rw (lt-ltb (length p) 4 h)

  module _ (four : 4 ≤ length p) where
    pub rest-number : said_length p - length p ≡ missing_of p
    unfolding missing_of
    rest-number = rw (le-ltb (length p) 4 four)

    module _ (n : ℕ) (s : n ≡ said_in p) where
      pub said-number : n - length p ≡ missing_of p
      unfolding said_in
      said-number = rw (s, le-leb 4 (length p) four) rest-number

      pub no_number : n ≤ length p → 0 ≡ missing_of p
      no_number h = rw (← said-number) (omega arith)

module _ (p : List ℕ) where
  pub read-head-missing : length p < 4 → Short (missing_of p) ≡ read_of p
  unfolding read_of
  read-head-missing h = rw (lt-ltb (length p) 4 h)

  module _ (four : 4 ≤ length p) (ext : ℕ) (x : ext ≡ extension_length p) where
    pub read-long : 127 < ext → Refused LongExtension ≡ read_of p
    unfolding read_of
    read-long w = rw (le-ltb (length p) 4 four, ← x, lt-ltb 127 ext w)

    module _ (fits : ext ≤ 127) (kind body n : ℕ) (a : kind ≡ kind_of p) (m : n ≡ body_length p) (b : body ≡ n)
        (wrong : Bool) (q : wrong ≡ wrong_body kind body) where
      pub read-body : wrong ≡ true → Refused BodyLength ≡ read_of p
      unfolding read_of
      read-body w = rw (le-ltb (length p) 4 four, ← x, le-ltb 127 ext fits, ← m, ← b, ← a, ← q, w)

      module _ (right : wrong ≡ false) where
        pub read-rest-missing : length p < 4 + ext + body → Short (missing_of p) ≡ read_of p
        unfolding read_of rest_missing said_length
        read-rest-missing w =
            rw (
              le-ltb (length p) 4 four,
              ← x,
              le-ltb 127 ext fits,
              ← m,
              ← b,
              ← a,
              ← q,
              right,
              lt-ltb (length p)
                  (4 + ext + body) w,
            )

        pub read-there : 4 + ext + body ≤ length p → (r : Packet) → r ≡ whole_of p → r ≡ read_of p
        unfolding read_of rest_missing said_length
        read-there w r e =
            rw (
              le-ltb (length p) 4 four,
              ← x,
              le-ltb 127 ext fits,
              ← m,
              ← b,
              ← a,
              ← q,
              right,
              le-ltb (length p)
                  (4 + ext + body) w,
            ) e
