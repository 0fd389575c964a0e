-- The answer of Login: its size, the number that it starts with, and what is written; over plain variables.
-- Assumes nothing.
use Prim.Native.Nat.{ℕ, ◌+◌, ◌<◌, ◌≤◌}
use native.Mathlib.Omega.{arith}
use mathlib.Core.Path.{◌≡◌, refl, ◌∙◌}
use mathlib.Core.List.{List, [], ◌++◌, append-nil}
use mathlib.Core.Bool.{Bool, true, false}
use borrow.Author.Tests.{lt-ltb, le-ltb}
use lib.ListN.{length, get_or}
use lib.Dec.{ltb}
use Rattle.ftd.specs.Write.{written_output}
use Rattle.ftd.specs.Fields.{shaped}
use Rattle.ftd.specs.Login.{login_bytes, login_verdict}
use Rattle.ftd.specs.declared.refusal.Refusal.TheVariants.{TooSmall, WrongStart}
use Rattle.ftd.specs.Types.{TradeDate}
use Rattle.ftd.proofs.write.Puts.{length-message}
use Rattle.flow.specs.declared.sender.Sender.{Sender}
use Rattle.flow.specs.Ends.{wrote, over, no_series}
use Rattle.flow.specs.Helpers.{placed_at}
use Rattle.flow.specs.LoginHelpers.{start_outside, login_answer}
use Rattle.flow.proofs.common.Bools.{clash}
use Rattle.std.specs.Option.{is_some}
use Rattle.std.specs.Prelude.{Some, None, Ok, Err}

-- ─── Its size ───

pub size-undated : (date : TradeDate) (content : List ℕ) → is_some date ≡ false
    → 20 + length content ≡ length (login_bytes date content)
unfolding login_bytes
size-undated None content e = rw length-message (omega arith)
size-undated (Some d) content e = clash _ refl e

pub size-dated : (date : TradeDate) (content : List ℕ) → is_some date ≡ true
    → 26 + length content ≡ length (login_bytes date content)
unfolding login_bytes
size-dated None content e = clash _ e refl
size-dated (Some d) content e = rw length-message (omega arith)

-- ─── 18, 19, and the answer written ───

module _ (e : Sender) (i next : ℕ) (content out : List ℕ) (n : ℕ)
    (size : n ≡ length (login_bytes e.day.date content)) where
  pub answer-small : length out < n → wrote e (Err TooSmall) out ≡ login_answer e i next content out
  unfolding login_answer
  answer-small h = rw (← size, lt-ltb (length out) n h)

  module _ (room : n ≤ length out) (b : Bool)
      (q : b ≡ start_outside (get_or e.day.series i no_series).published next) where
    pub answer-outside : b ≡ true → wrote e (Err WrongStart) out ≡ login_answer e i next content out
    unfolding login_answer
    answer-outside x = rw (← size, le-ltb (length out) n room, ← q, x)

    pub answer-written : b ≡ false → (f : Sender) → f ≡ placed_at e i next 0
        → (o : List ℕ) → o ≡ over (login_bytes e.day.date content) out
        → wrote f (Ok n) o ≡ login_answer e i next content out
    unfolding login_answer
    answer-written x f g o k = rw (g, k, ← size, le-ltb (length out) n room, ← q, x)

-- What the writer leaves of content that 7 lets pass, in an output with room.
pub written_over : (date : TradeDate) (content out o : List ℕ) (n : ℕ) → n ≡ length (login_bytes date content)
    → n ≤ length out
    → shaped content 4080 ≡ true → o ≡ written_output (login_verdict content None) (login_bytes date (content ++ []))
    out
    → o ≡ over (login_bytes date content) out
unfolding written_output login_verdict
written_over date content out o n size room whole e =
    let a : content ++ [] ≡ content = append-nil content in
    let b : ltb (length out) (length (login_bytes date content)) ≡ false = le-ltb _ _ (rw size at room) in
    e ∙ rw (whole, a, b)
