-- A refused Start or Take leaves the book. Assumes nothing.
use Prim.Native.Nat.{ℕ}
use mathlib.Core.Path.{◌≡◌, refl, sym, ◌∙◌}
use mathlib.Core.List.{List}
use mathlib.Core.Bool.{Bool, true, false, cond}
use Rattle.ftd.specs.Fields.{most_content}
use Rattle.ftd.specs.Content.{content_check}
use Rattle.ftd.specs.declared.composition.Direction.TheVariants.{Down}
use Rattle.ftd.specs.Types.{Checked}
use Rattle.ftd.specs.declared.refusal.Refusal.{Refusal}
use Rattle.ftd.specs.declared.refusal.Refusal.TheVariants.{Item}
use Rattle.book.specs.declared.calls.Book.{Book}
use Rattle.book.specs.declared.calls.Step.{Step}
use Rattle.book.specs.Types.{Outcome}
use Rattle.book.specs.Calls.{started, is_code, done, refusing, start_of, walked, events_of, or_kept, checked_then, take_of}
use Rattle.book.specs.Refusals.{RefusalsLeave}
use Rattle.book.proofs.agreement.Events.{not_done}
use Rattle.std.specs.Prelude.{Ok, Err}

start-leaves : (b : Book) (code : List ℕ) (r : Refusal) → (start_of b code).answer ≡ Err r → (start_of b code).book ≡ b
unfolding start_of
start-leaves b code r e = go (is_code code) e
  where
    go : (a : Bool) → (cond a (done (started code)) (refusing b Item)).answer ≡ Err r
        → (cond a (done (started code)) (refusing b Item)).book ≡ b
    go true q = absurd (not_done r (sym q))
    go false q = refl

kept : (b : Book) (s : Step) (a : Outcome) → s.answer ≡ a → (r : Refusal) → (or_kept b a s).answer ≡ Err r
    → (or_kept b a s).book ≡ b
kept b s (Ok tt) e r q = absurd (not_done r (sym q ∙ e))
kept b s (Err x) e r q = refl

take-leaves : (b : Book) (tid : ℕ) (content : List ℕ) (r : Refusal) → (take_of b tid content).answer ≡ Err r
    → (take_of b tid content).book ≡ b
unfolding take_of
take-leaves b tid content r e = go (content_check tid Down content most_content) e
  where
    go : (k : Checked)
        → (checked_then k b
        (or_kept b (walked b (events_of b.code tid content)).answer (walked b (events_of b.code tid content)))
        ).answer ≡ Err r
        → (checked_then k b
        (or_kept b (walked b (events_of b.code tid content)).answer (walked b (events_of b.code tid content)))
        ).book ≡ b
    go (Ok tt) q =
        kept b (walked b (events_of b.code tid content)) (walked b (events_of b.code tid content)).answer refl r q
    go (Err x) q = refl

pub refusals-leave : RefusalsLeave
refusals-leave = record { start = start-leaves; take = take-leaves }
