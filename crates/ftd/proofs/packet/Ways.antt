-- What each way through the judging functions decides, over plain variables. Assumes nothing.
use Prim.Native.Nat.{ℕ, ◌+◌, ◌-◌, ◌<◌, ◌≤◌}
use mathlib.Core.Path.{◌≡◌, refl, ap, ◌∙◌}
use mathlib.Core.List.{List}
use mathlib.Core.Bool.{Bool, true, false}
use native.Mathlib.Omega.{arith}
use lib.ListN.{length, take, drop}
use Rattle.ftd.specs.Tags.{trade_date_of, packet_place_of, tag_run_of}
use Rattle.ftd.specs.Packet.{kind_of, body_length, extension_length, extension_of, wrong_body, is_skipped}
use Rattle.ftd.specs.Packet.{message_of, whole_of, read_of, bears_tags, with_tags, dated_of, verdict_of, judgement}
use Rattle.ftd.specs.Packet.{judged_of}
use Rattle.ftd.specs.Packet.Helpers.{SaysLengths, bare}
use Rattle.ftd.specs.declared.refusal.Refusal.{Refusal}
use Rattle.ftd.specs.declared.refusal.Refusal.TheVariants.{LongExtension, BrokenTag, BodyLength}
use Rattle.ftd.specs.Types.{TradeDate}
use Rattle.ftd.specs.Types.{PacketPlace}
use Rattle.ftd.specs.declared.packet.Packet.{Packet}
use Rattle.ftd.specs.declared.packet.Packet.TheVariants.{Refused}
use Rattle.ftd.specs.declared.packet.Verdict.TheVariants.{TooFew, LinkPacket, SkippedPacket, Against}
use Rattle.ftd.specs.declared.packet.Judged.{Judged}
use Rattle.ftd.proofs.packet.Verdicts.{whole-skipped, whole-broken, whole-link, whole-message, read-head-missing}
use Rattle.ftd.proofs.packet.Verdicts.{read-long, read-body, read-rest-missing, read-there}
use Rattle.ftd.proofs.tags.Walk.{run-broken, run-good, run-date, run-place}
use Rattle.std.specs.Prelude.{None}
use Rattle.ftd.specs.Types.{MaybeTags, some_tags}

-- What bears no tags, and what bears them.
module _ (w : Packet) (d : TradeDate) (j : PacketPlace) where
  tags-none : (r : Packet) → r ≡ w → bears_tags r ≡ false → (y : Judged) → y ≡ bare (verdict_of r)
      → y ≡ judgement (with_tags w d j)
  unfolding judgement with_tags
  tags-none r e b y u = rw (u, ← e, b)

  tags-some : (r : Packet) (x : TradeDate) (i : PacketPlace) → r ≡ w → x ≡ d → i ≡ j → bears_tags r ≡ true
      → record { verdict = verdict_of r; date = x; place = i } ≡ judgement (with_tags w d j)
  unfolding judgement with_tags
  tags-some r x i e q o b = rw (← e, b, q, o)

-- A message packet that is refused bears none.
module _ (p : List ℕ) (d : TradeDate) (j : PacketPlace) (y : Judged) where
  pub refused-bare : (r : Refusal) → y ≡ bare (Against r) → Refused r ≡ message_of p
      → y ≡ judgement (with_tags (message_of p) d j)
  refused-bare r u e = tags-none (message_of p) d j (Refused r) e refl y u

module _ (p : List ℕ) (ext body : ℕ) (said : SaysLengths p ext body) (kind : ℕ) (a : kind ≡ kind_of p) (skipped : Bool)
    (s : skipped ≡ is_skipped kind body) where
  -- What the packet is, with what its extension bears.
  abbrev Whole : Judged → Type 0
  Whole y = y ≡ judgement (with_tags (whole_of p) (trade_date_of (extension_of p)) (packet_place_of (extension_of p)))

  pub judged-skipped : skipped ≡ true → (y : Judged) → y ≡ bare SkippedPacket → Whole y
  judged-skipped w = tags-none (whole_of p) _ _ _ (whole-skipped p ext body said kind a skipped s w) refl

  module _ (not-skipped : skipped ≡ false) (r : MaybeTags) (g : r ≡ tag_run_of (take (4 + ext - 4) (drop 4 p))) where
    pub judged-broken : r ≡ None → (y : Judged) → y ≡ bare (Against BrokenTag) → Whole y
    judged-broken w =
        tags-none (whole_of p) _ _ _
        (whole-broken p ext body said kind a skipped s not-skipped _ refl (run-broken _ r g w)) refl

    module _ (x : TradeDate) (i : PacketPlace) (q : r ≡ some_tags x i) where
      date-same : x ≡ trade_date_of (extension_of p)
      unfolding extension_of
      date-same =
          let d : 4 + ext - 4 ≡ ext = omega arith in
          run-date _ r x i g q ∙ ap (λ (n : ℕ). trade_date_of (take n (drop 4 p))) (d ∙ said.0)

      place_same : i ≡ packet_place_of (extension_of p)
      unfolding extension_of
      place_same =
          let d : 4 + ext - 4 ≡ ext = omega arith in
          run-place _ r x i g q ∙ ap (λ (n : ℕ). packet_place_of (take n (drop 4 p))) (d ∙ said.0)

      pub judged-link : body ≡ 0 → Whole (record { verdict = LinkPacket; date = x; place = i })
      judged-link z =
          tags-some (whole_of p) _ _ _ x i
          (whole-link p ext body said kind a skipped s not-skipped _ refl (run-good _ r x i g q) z) date-same place_same
          refl

      pub judged-message : (body ≡ 0 → ⊥) → (y : Judged) → y ≡ judgement (with_tags (message_of p) x i) → Whole y
      judged-message z y e =
          rw (
            ← (whole-message p ext body said kind a skipped s not-skipped _ refl (run-good _ r x i g q) z _ refl),
            ← date-same,
            ← place_same,
          ) e

module _ (p : List ℕ) where
  pub judged-head-missing : length p < 4 → (y : Judged) → y ≡ bare TooFew → y ≡ judged_of p
  unfolding judged_of dated_of
  judged-head-missing h = tags-none (read_of p) _ _ _ (read-head-missing p h) refl

  module _ (four : 4 ≤ length p) (ext : ℕ) (x : ext ≡ extension_length p) where
    pub judged-long : 127 < ext → (y : Judged) → y ≡ bare (Against LongExtension) → y ≡ judged_of p
    unfolding judged_of dated_of
    judged-long w = tags-none (read_of p) _ _ _ (read-long p four ext x w) refl

    module _ (fits : ext ≤ 127) (kind body n : ℕ) (a : kind ≡ kind_of p) (m : n ≡ body_length p) (b : body ≡ n)
        (wrong : Bool) (q : wrong ≡ wrong_body kind body) where
      pub judged-body : wrong ≡ true → (y : Judged) → y ≡ bare (Against BodyLength) → y ≡ judged_of p
      unfolding judged_of dated_of
      judged-body w = tags-none (read_of p) _ _ _ (read-body p four ext x fits kind body n a m b wrong q w) refl

      module _ (right : wrong ≡ false) where
        pub judged-rest-missing : length p < 4 + ext + body → (y : Judged) → y ≡ bare TooFew → y ≡ judged_of p
        unfolding judged_of dated_of
        judged-rest-missing w =
            tags-none (read_of p) _ _ _ (read-rest-missing p four ext x fits kind body n a m b wrong q right w) refl

        pub judged-there : 4 + ext + body ≤ length p → (y : Judged)
            → y ≡ judgement (with_tags (whole_of p) (trade_date_of (extension_of p)) (packet_place_of (extension_of p)))
            → y ≡ judged_of p
        unfolding judged_of dated_of
        judged-there w y e = rw (← (read-there p four ext x fits kind body n a m b wrong q right w (whole_of p) refl)) e
