-- What Send answers where the serving side is right: the log is never damaged, none is left exactly if all published
-- ones were stepped over, and a message written is the next one. Assumes nothing.
use Prim.Native.Nat.{ℕ, suc, ◌<◌}
use native.Mathlib.Omega.{arith}
use mathlib.Core.Path.{◌≡◌, refl, ap, ◌∙◌, sym}
use mathlib.Core.Logic.{◌↔◌}
use mathlib.Core.List.{List}
use mathlib.Core.Bool.{true}
use lib.ListN.{length}
use Rattle.ftd.specs.declared.refusal.Refusal.TheVariants.{DamagedLog}
use Rattle.flow.specs.declared.sender.Sender.{Sender}
use Rattle.flow.specs.Ends.{Wrote, is_served, published_of, place_of}
use Rattle.flow.specs.Serving.{send_of}
use Rattle.flow.specs.World.{SenderSide}
use Rattle.flow.specs.Agreement.{of}
use Rattle.flow.proofs.ends.SenderLookups.{place-next}
use Rattle.flow.proofs.calls.Serving.{Seated, SendDone, send-unknown, send-outside, send-drained, send-damaged}
use Rattle.flow.proofs.calls.Serving.{send-small, send-taken, send-cases}
use Rattle.flow.proofs.source.Served.{ServedSide}
use Rattle.flow.proofs.source.Kept.{published-count}
use Rattle.flow.proofs.source.Entries.{next-entry}
use Rattle.flow.proofs.common.Extends.{none-some}
use Rattle.flow.proofs.common.Bools.{not-both}
use Rattle.flow.proofs.Options.{same-message}
use Rattle.std.specs.Prelude.{Some, None, Ok, Err}
use Rattle.flow.specs.Types.{SendAnswer, message_sent}

module _ (v : SenderSide) (h : ServedSide v) (s : ℕ) (out : List ℕ) where
  abbrev end : Sender
  end = v.end

  abbrev log : List ℕ
  log = v.log

  -- ─── Never 20 ───

  damaged-never : (r : Wrote Sender SendAnswer) → SendDone end s log out r → r.answer ≡ Err DamagedLog → ⊥
  damaged-never r (send-unknown a) q = let z : ◌≡◌ {A = ℕ} 0 1 = cc in omega arith
  damaged-never r (send-outside a b) q = let z : ◌≡◌ {A = ℕ} 0 1 = cc in omega arith
  damaged-never r (send-drained a b) q = let z : ◌≡◌ {A = ℕ} 0 1 = cc in omega arith
  damaged-never r (send-damaged a b c) q =
      let n = next-entry end log v.day v.published h s a b in
      none-some _ (sym c ∙ n.entry)
  damaged-never r (send-small x a b c d) q = let z : ◌≡◌ {A = ℕ} 0 1 = cc in omega arith
  damaged-never r (send-taken x a b c d) q = let z : ◌≡◌ {A = ℕ} 0 1 = cc in omega arith

  pub send-undamaged : (send_of end s log out).answer ≡ Err DamagedLog → ⊥
  send-undamaged = damaged-never (send_of end s log out) (send-cases end s log out)

  -- ─── None left ───

  drained-then : (r : Wrote Sender SendAnswer) → SendDone end s log out r → r.answer ≡ (Ok None)
      → Seated end s × (published_of end s < (place_of end s).next)
  drained-then r (send-unknown a) q = absurd (let z : ◌≡◌ {A = ℕ} 0 1 = cc in omega arith)
  drained-then r (send-outside a b) q = absurd (let z : ◌≡◌ {A = ℕ} 0 1 = cc in omega arith)
  drained-then r (send-drained a b) q = (a, b)
  drained-then r (send-damaged a b c) q = absurd (let z : ◌≡◌ {A = ℕ} 0 1 = cc in omega arith)
  drained-then r (send-small x a b c d) q = absurd (let z : ◌≡◌ {A = ℕ} 0 1 = cc in omega arith)
  drained-then r (send-taken x a b c d) q = absurd (let z : ◌≡◌ {A = ℕ} 0 1 = cc in omega arith)

  drained-if : (r : Wrote Sender SendAnswer) → SendDone end s log out r → Seated end s
      → published_of end s < (place_of end s).next → r.answer ≡ (Ok None)
  drained-if r (send-unknown a) g q = absurd (not-both (is_served end s) g.served a)
  drained-if r (send-outside a b) g q = absurd (not-both (place_of end s).login g.login b)
  drained-if r (send-drained a b) g q = refl
  drained-if r (send-damaged a b c) g q = absurd (omega arith)
  drained-if r (send-small x a b c d) g q = absurd (omega arith)
  drained-if r (send-taken x a b c d) g q = absurd (omega arith)

  pub drained-exactly : (d : ℕ) → v.day ≡ Some d →
      ((send_of end s log out).answer ≡ (Ok None)) ↔ (Seated end s × (length (of s d v.published) < (place_of end s).next))
  drained-exactly d q = (there, back)
    where
      there : (send_of end s log out).answer ≡ (Ok None)
          → Seated end s × (length (of s d v.published) < (place_of end s).next)
      there p =
          let g = drained-then (send_of end s log out) (send-cases end s log out) p in
          (g.0, rw (← published-count v h s d q g.0.served) g.1)

      back : Seated end s × (length (of s d v.published) < (place_of end s).next)
          → (send_of end s log out).answer ≡ (Ok None)
      back g =
          drained-if (send_of end s log out) (send-cases end s log out) g.0
          (rw (published-count v h s d q g.0.served) g.1)

  -- ─── Written ───

  sent-then : (r : Wrote Sender SendAnswer) → SendDone end s log out r → (k n : ℕ) → r.answer ≡ message_sent k n →
      ((place_of end s).next ≡ k) × (place_of r.end s ≡ record { login = true; next = suc k; piece = 0 })
  sent-then r (send-unknown a) k n q = absurd (let z : ◌≡◌ {A = ℕ} 0 1 = cc in omega arith)
  sent-then r (send-outside a b) k n q = absurd (let z : ◌≡◌ {A = ℕ} 0 1 = cc in omega arith)
  sent-then r (send-drained a b) k n q = absurd (let z : ◌≡◌ {A = ℕ} 0 1 = cc in omega arith)
  sent-then r (send-damaged a b c) k n q = absurd (let z : ◌≡◌ {A = ℕ} 0 1 = cc in omega arith)
  sent-then r (send-small x a b c d) k n q = absurd (let z : ◌≡◌ {A = ℕ} 0 1 = cc in omega arith)
  sent-then r (send-taken x a b c d) k n q =
      let same = same-message _ _ k n q in (
        same,
        place-next end s a.served h.eight (suc (place_of end s).next) 0
            ∙ ap (λ (j : ℕ). record { login = true; next = suc j; piece = 0 }) same,
      )

  -- The number written was next, and next is one more.
  pub sent-next : (k n : ℕ) → (send_of end s log out).answer ≡ message_sent k n →
      ((place_of end s).next ≡ k) × (place_of (send_of end s log out).end s ≡ record { login = true; next = suc k; piece = 0 })
  sent-next = sent-then (send_of end s log out) (send-cases end s log out)
