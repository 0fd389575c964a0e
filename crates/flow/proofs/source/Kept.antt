-- Every call of the serving end keeps it right; and what that says in the words of the agreement. Assumes nothing.
use Prim.Native.Nat.{ℕ, suc, ◌+◌, ◌≤◌}
use native.Mathlib.Omega.{arith}
use mathlib.Core.Path.{◌≡◌, ap, ◌∙◌, sym}
use mathlib.Core.List.{[]}
use mathlib.Core.Bool.{true, false}
use lib.ListN.{length}
use Rattle.ftd.specs.Types.{TradeDate}
use Rattle.flow.specs.Ends.{most_messages, up_to, is_served, published_of, place_of}
use Rattle.flow.specs.World.{SenderSide}
use Rattle.flow.specs.Agreement.{of}
use Rattle.flow.proofs.common.Days.{up_to-rises}
use Rattle.flow.proofs.source.Histories.{messages_of, on_date, of_is}
use Rattle.flow.proofs.source.Moves.{Move, stays, opens, publishes, logs-in, sends, sends-packet}
use Rattle.flow.proofs.common.Rows.{by-when}
use Rattle.flow.specs.declared.sender.Sender.{Sender}
use Rattle.flow.specs.Serving.{last_packet, after_packet}
use Rattle.flow.proofs.source.Served.{Served, ServedSide, served-opened, served-after}
use Rattle.flow.proofs.source.Published.{served-published}
use Rattle.std.specs.Prelude.{Some}

pub move-served : (v u : SenderSide) → Move v u → ServedSide v → ServedSide u
unfolding after_packet
move-served v u stays h = h
move-served v u (opens date ss rs a b) h = served-opened v.end v.log v.day v.published h date ss rs a b
move-served v u (publishes s tid content t) h =
    served-published v.end v.log v.day v.published h s tid content t
move-served v u (logs-in s p content out x y c g t) h =
    served-after v.end v.log v.day v.published h s _ 0 t.served t.from_one t.behind
move-served v u (sends s x a b c) h =
    served-after v.end v.log v.day v.published h s (suc (place_of v.end s).next) 0 a.served
    (omega arith) (omega arith)
move-served v u (sends-packet s x a b c d) h =
    by-when (λ (e : Sender). Served e v.log v.day v.published) (last_packet v.end s x)
    (λ q. served-after v.end v.log v.day v.published h s (suc (place_of v.end s).next) 0 a.served
    (omega arith) (omega arith)) λ q.
    served-after v.end v.log v.day v.published h s (place_of v.end s).next
    ((place_of v.end s).piece + 1) a.served (h.placed s a.served a.login).0 (omega arith)

-- Days only rise.
pub move-rises : (v u : SenderSide) → Move v u → ServedSide v → (d : ℕ) → up_to d v.day ≡ true
    → up_to d u.day ≡ true
move-rises v u stays h d q = q
move-rises v u (opens date ss rs a b) h d q = up_to-rises d date v.day (rw h.same-day at b) q
move-rises v u (publishes s tid content t) h d q = q
move-rises v u (logs-in s p content out x y c g t) h d q = q
move-rises v u (sends s x a b c) h d q = q
move-rises v u (sends-packet s x a b c e) h d q = q

-- ─── In the agreement's words ───

module _ (v : SenderSide) (h : ServedSide v) where
  -- On the open day an open series' count is how many were published.
  pub published-count : (s d : ℕ) → v.day ≡ Some d → is_served v.end s ≡ true
      → published_of v.end s ≡ length (of s d v.published)
  published-count s d q o =
      h.counted s o ∙ ap (λ (t : TradeDate). length (messages_of s (on_date t v.published))) q
      ∙ ap length (sym (of_is s d v.published))

  -- Nothing is published on a day above the present one; on no day more than may be.
  pub published-later : (s d : ℕ) → up_to d v.day ≡ false → of s d v.published ≡ []
  published-later s d q = of_is s d v.published ∙ ap (messages_of s) (h.not-later d q)

  pub published-few : (s d : ℕ) → length (of s d v.published) ≤ most_messages
  published-few s d = rw (of_is s d v.published) (h.few s d)
