-- Login whole: each way from the packet to an answer; over plain variables. Assumes nothing.
use Prim.Native.Nat.{ℕ, ◌+◌, ◌-◌, ◌≤◌}
use native.Mathlib.Omega.{arith}
use mathlib.Core.Path.{◌≡◌, refl, sym, ap, ◌∙◌}
use mathlib.Core.List.{List, [], ◌∷◌}
use mathlib.Core.Bool.{Bool, true, false, ◌||◌}
use lib.ListN.{length, take, drop}
use types.Run.{OneOf, miss}
use denote.Enum.Declared.{tag_of}
use Rattle.ftd.specs.Bytes.{part}
use Rattle.ftd.specs.Packet.{not_one_packet, no_message_packet, with_tags, dated_of}
use Rattle.ftd.specs.declared.refusal.Refusal.{Refusal}
use Rattle.ftd.specs.declared.refusal.Refusal.TheVariants.{NotOnePacket}
use Rattle.ftd.specs.Types.{TradeDate}
use Rattle.ftd.specs.declared.packet.Header.{Header}
use Rattle.ftd.specs.declared.packet.Span.{Span}
use Rattle.ftd.specs.declared.packet.Dated.{Dated}
use Rattle.ftd.specs.declared.packet.Packet.{Packet}
use Rattle.ftd.specs.declared.packet.Packet.TheVariants.{Short, Link, Skipped, Message}
use Rattle.ftd.specs.declared.packet.Packet.TheVariants.{Refused as Unread}
use Rattle.ftd.specs.contracts.packet.Packet.{the_type}
use Rattle.ftd.proofs.packet.Laws.{content-inside}
use Rattle.flow.specs.declared.sender.Sender.{Sender}
use Rattle.flow.specs.declared.sender.LoginStep.{LoginStep}
use Rattle.flow.specs.Types.{LoggedIn}
use Rattle.flow.specs.Ends.{Wrote, wrote}
use Rattle.flow.specs.Answers.{login_said}
use Rattle.flow.specs.Serving.{login_with, login_read, login_of}
use Rattle.flow.specs.Promises.{LogsIn}
use Rattle.std.specs.Prelude.{Err}

-- The content of a packet, lent as a part of it.
pub as-part : (p : List ℕ) (c : Span) → take (c.start + c.len - c.start) (drop c.start p)
    ≡ part p c.start c.len
as-part p c = let n : c.start + c.len - c.start ≡ c.len = omega arith in rw n

-- What holds of short, link and skipped packets holds of all but message packets and refusals.
pub other-packet : {A : Type 0} (f : Packet → A) (y : A) → ((n : ℕ) → y ≡ f (Short n))
    → ((kind : ℕ) (x : Span) → y ≡ f (Link kind x)) → ((kind : ℕ) (x b : Span) → y ≡ f (Skipped kind x b))
    → (q : Packet) → OneOf (0 ∷ 1 ∷ 2 ∷ []) (tag_of the_type q) → y ≡ f q
other-packet f y g h i (Short n) k = g n
other-packet f y g h i (Link kind x) k = h kind x
other-packet f y g h i (Skipped kind x b) k = i kind x b
other-packet f y g h i (Message head x c) k = absurd (miss (0 ∷ 1 ∷ 2 ∷ []) 3 tt k)
other-packet f y g h i (Unread r) k = absurd (miss (0 ∷ 1 ∷ 2 ∷ []) 4 tt k)

module _ (e : Sender) (s : ℕ) (p content out : List ℕ) where
  -- What is left is the definition's: so are its parts.
  logs-in : (r : LoginStep) (after : List ℕ) → wrote r.end r.answer after ≡ login_of e s p content out
      → LogsIn e s p content out r after
  logs-in r after x = (
    ap (λ (w : Wrote Sender LoggedIn). w.end) x,
    (ap (λ (w : Wrote Sender LoggedIn). login_said w.answer) x, ap (λ (w : Wrote Sender LoggedIn). w.answer) x),
    ap (λ (w : Wrote Sender LoggedIn). w.bytes) x,
  )

  -- The end as it was, and a refusal.
  abbrev pub refusing : Refusal → LoginStep
  refusing r = record { end = e; answer = Err r }

  -- Neither a message packet nor a refusal.
  other-read : (date : TradeDate) (q : Packet) → OneOf (0 ∷ 1 ∷ 2 ∷ []) (tag_of the_type q)
      → wrote e (Err NotOnePacket) out ≡ login_read e s p content out date q
  other-read date = other-packet (login_read e s p content out date) _ (λ n. refl) (λ k x. refl) (λ k x b. refl)

  module _ (b : Bool) (k : b ≡ (not_one_packet p || no_message_packet p)) where
    pub not-message : b ≡ true → LogsIn e s p content out (refusing NotOnePacket) out
    unfolding login_of
    not-message x = logs-in _ _ (rw (← k, x))

    module _ (y1 : b ≡ false) (d : Dated) (m : d ≡ dated_of p) where
      by_read : (w : Wrote Sender LoggedIn) → w ≡ login_read e s p content out d.date d.packet
          → w ≡ login_of e s p content out
      unfolding login_of
      by_read w x = rw (← k, y1, ← m) x

      pub read-refused : (r : Refusal) → d.packet ≡ Unread r → LogsIn e s p content out (refusing r) out
      read-refused r x = logs-in _ _ (by_read _ (rw x))

      pub read-other : OneOf (0 ∷ 1 ∷ 2 ∷ []) (tag_of the_type d.packet)
          → LogsIn e s p content out (refusing NotOnePacket) out
      read-other x = logs-in _ _ (by_read _ (other-read d.date d.packet x))

      pub read-message : (h : Header) (x c : Span) → d.packet ≡ Message h x c → (r : LoginStep) (after : List ℕ)
          → wrote r.end r.answer after
          ≡ login_with e s h d.date (take (c.start + c.len - c.start) (drop c.start p)) content out
          → LogsIn e s p content out r after
      read-message h x c y r after z = logs-in r after (by_read _ (rw (y, ← (as-part p c)) z))

-- The content of a packet that was read lies in it.
pub read-inside : (p : List ℕ) (d : Dated) → d ≡ dated_of p → (h : Header) (x c : Span) → d.packet ≡ Message h x c
    → c.start + c.len ≤ length p
unfolding dated_of with_tags
read-inside p d m h x c y = content-inside p h x c (sym (ap (λ (z : Dated). z.packet) m) ∙ y)
