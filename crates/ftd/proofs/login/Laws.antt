-- A login packet or its answer is one message packet, read back with header, trade date and content; and a writer that
-- is not refused writes content that has shape. Assumes nothing.
use Prim.Native.Nat.{ℕ, ◌+◌}
use mathlib.Core.Path.{◌≡◌, refl, ◌∙◌}
use mathlib.Core.List.{List, [], ◌++◌, append-nil}
use mathlib.Core.Bool.{Bool, true, false, cond}
use native.Mathlib.Omega.{arith}
use borrow.Author.Tests.{le-ltb}
use lib.ListN.{length}
use Rattle.ftd.specs.Bytes.{part}
use Rattle.ftd.specs.Packet.{span, dated_of, not_one_packet, no_message_packet}
use Rattle.ftd.specs.Write.{fine, refuse, message_verdict}
use Rattle.ftd.specs.Tags.{tags_for, extension_bytes}
use Rattle.ftd.specs.Fields.{shaped}
use Rattle.ftd.specs.Login.{login_header, login_bytes, ending_bytes, login_verdict, LoginLaws}
use Rattle.ftd.specs.declared.refusal.Refusal.TheVariants.{FieldRun}
use Rattle.ftd.specs.Types.{TradeDate}
use Rattle.ftd.specs.declared.packet.Packet.TheVariants.{Message}
use Rattle.ftd.proofs.chain.Pieces.{shaped-facts}
use Rattle.ftd.proofs.write.Laws.{message-places, dated-back, message-one}
use Rattle.ftd.proofs.chain.Laws.{date-good, date-back, no_place}
use Rattle.ftd.proofs.chain.Singles.{exact-shaped}
use Rattle.ftd.proofs.resume.Content.{start-shaped}
use Rattle.std.specs.Prelude.{Some, None}
use Rattle.ftd.specs.Types.{MaybeEnding}

pub login-content : (d : TradeDate) (c : List ℕ)
    → part (login_bytes d c) (4 + length (extension_bytes (tags_for d)) + 16) (length c) ≡ c
unfolding login_bytes
login-content d c = rw append-nil at (message-places (login_header c) (extension_bytes (tags_for d)) c []).1

module _ (d : TradeDate) (c : List ℕ) (h : shaped c 4080 ≡ true) where
  login-fine : message_verdict (login_header c) (extension_bytes (tags_for d)) c ≡ fine
  unfolding message_verdict login_header
  login-fine =
      let t = date-good d in
      rw (
        le-ltb 127 (length (extension_bytes (tags_for d))) (omega (arith, t.1)),
        le-ltb 4080 (length c) (shaped-facts c 4080 (shaped c 4080) refl h).0,
        t.0,
        exact-shaped c 4080 h,
      )

  pub login-back : dated_of (login_bytes d c) ≡ record {
    packet =
        Message (login_header c) (span 4 (length (extension_bytes (tags_for d))))
        (span (4 + length (extension_bytes (tags_for d)) + 16) (length c));
    date = d;
    place = None;
  }
  unfolding login_bytes
  login-back =
      (rw append-nil at (dated-back (login_header c) (extension_bytes (tags_for d)) c [] login-fine))
      ∙ rw (date-back d, no_place d)

  login-both : (not_one_packet (login_bytes d c) ≡ false) × (no_message_packet (login_bytes d c) ≡ false)
  unfolding login_bytes
  login-both = message-one (login_header c) (extension_bytes (tags_for d)) c login-fine

  pub login-one : not_one_packet (login_bytes d c) ≡ false
  login-one = login-both.0

  pub login-message : no_message_packet (login_bytes d c) ≡ false
  login-message = login-both.1

-- ─── What a writer that is not refused writes ───

by-fine : (b : Bool) → cond b fine (refuse FieldRun) ≡ fine → b ≡ true
by-fine true e = refl
by-fine false e = let z : ◌≡◌ {A = ℕ} 0 1 = cc in absurd (omega arith)

pub fine-shaped : (c : List ℕ) (ending : MaybeEnding) → login_verdict c ending ≡ fine
    → shaped (c ++ ending_bytes ending) 4080 ≡ true
unfolding login_verdict
fine-shaped c None e = rw append-nil (by-fine (shaped c 4080) e)
fine-shaped c (Some found) e = start-shaped c found.series found.number 4068 (by-fine (shaped c 4068) e)

-- ─── All of it ───

pub login-laws : LoginLaws
login-laws =
    record { back = login-back; content-back = login-content; one-packet = login-both; fine-shaped = fine-shaped }
