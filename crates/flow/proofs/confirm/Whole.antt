-- Answer whole: each way from the packet to an answer; over plain variables. Assumes nothing.
use Prim.Native.Nat.{ℕ, ◌+◌, ◌-◌}
use mathlib.Core.Path.{◌≡◌, refl, ap}
use mathlib.Core.List.{List, [], ◌∷◌}
use mathlib.Core.Bool.{Bool, true, false, ◌||◌}
use lib.ListN.{take, drop}
use types.Run.{OneOf}
use denote.Enum.Declared.{tag_of}
use Rattle.ftd.specs.Packet.{not_one_packet, no_message_packet, dated_of}
use Rattle.ftd.specs.declared.refusal.Refusal.{Refusal}
use Rattle.ftd.specs.declared.refusal.Refusal.TheVariants.{NotOnePacket}
use Rattle.ftd.specs.Types.{TradeDate}
use Rattle.ftd.specs.declared.packet.Header.{Header}
use Rattle.ftd.specs.declared.packet.Span.{Span}
use Rattle.ftd.specs.declared.packet.Dated.{Dated}
use Rattle.ftd.specs.declared.packet.Packet.{Packet}
use Rattle.ftd.specs.declared.packet.Packet.TheVariants.{Message}
use Rattle.ftd.specs.declared.packet.Packet.TheVariants.{Refused as Unread}
use Rattle.ftd.specs.contracts.packet.Packet.{the_type}
use Rattle.flow.specs.declared.receiver.Receiver.{Receiver}
use Rattle.flow.specs.declared.receiver.ConfirmStep.{ConfirmStep}
use Rattle.flow.specs.Types.{Confirmed}
use Rattle.flow.specs.Ends.{Left, left}
use Rattle.flow.specs.Answers.{confirmed_said}
use Rattle.flow.specs.Receiving.{confirm_with, confirm_read, confirm_login_of}
use Rattle.flow.specs.Promises.{Confirms}
use Rattle.flow.proofs.login.Whole.{as-part, other-packet}
use Rattle.std.specs.Prelude.{Err}

module _ (e : Receiver) (s : ℕ) (p : List ℕ) where
  -- What is left is the definition's: so are its parts.
  confirms : (r : ConfirmStep) → left r.end r.answer ≡ confirm_login_of e s p → Confirms e s p r
  confirms r x = (
    ap (λ (w : Left Receiver Confirmed). w.end) x,
    (
      ap (λ (w : Left Receiver Confirmed). confirmed_said w.answer) x,
      ap (λ (w : Left Receiver Confirmed). w.answer) x,
    ),
  )

  -- The end as it was, and a refusal.
  abbrev pub refusing : Refusal → ConfirmStep
  refusing r = record { end = e; answer = Err r }

  -- Neither a message packet nor a refusal.
  other-read : (date : TradeDate) (q : Packet) → OneOf (0 ∷ 1 ∷ 2 ∷ []) (tag_of the_type q)
      → left e (Err NotOnePacket) ≡ confirm_read e s p date q
  other-read date = other-packet (confirm_read e s p date) _ (λ n. refl) (λ k x. refl) (λ k x b. refl)

  module _ (b : Bool) (k : b ≡ (not_one_packet p || no_message_packet p)) where
    pub confirm-not-message : b ≡ true → Confirms e s p (refusing NotOnePacket)
    unfolding confirm_login_of
    confirm-not-message x = confirms _ (rw (← k, x))

    module _ (y1 : b ≡ false) (d : Dated) (m : d ≡ dated_of p) where
      by_read : (w : Left Receiver Confirmed) → w ≡ confirm_read e s p d.date d.packet → w ≡ confirm_login_of e s p
      unfolding confirm_login_of
      by_read w x = rw (← k, y1, ← m) x

      pub confirm-refused : (r : Refusal) → d.packet ≡ Unread r → Confirms e s p (refusing r)
      confirm-refused r x = confirms _ (by_read _ (rw x))

      pub confirm-other : OneOf (0 ∷ 1 ∷ 2 ∷ []) (tag_of the_type d.packet) → Confirms e s p (refusing NotOnePacket)
      confirm-other x = confirms _ (by_read _ (other-read d.date d.packet x))

      pub confirm-message : (h : Header) (x c : Span) → d.packet ≡ Message h x c → (r : ConfirmStep)
          → left r.end r.answer
          ≡ confirm_with e s h d.date (take (c.start + c.len - c.start) (drop c.start p))
          → Confirms e s p r
      confirm-message h x c y r z = confirms r (by_read _ (rw (y, ← (as-part p c)) z))
