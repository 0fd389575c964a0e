-- After every list of calls events and messages are answered by their verdicts. Assumes nothing.
use Prim.Native.Nat.{ℕ}
use mathlib.Core.Path.{◌≡◌, refl, sym, ◌∙◌}
use mathlib.Core.List.{List, [], ◌∷◌, ◌++◌}
use Rattle.ftd.specs.Fields.{most_content}
use Rattle.ftd.specs.Content.{content_check}
use Rattle.ftd.specs.declared.composition.Direction.TheVariants.{Down}
use Rattle.ftd.specs.Types.{Checked}
use Rattle.book.specs.declared.event.Event.{Event}
use Rattle.book.specs.declared.calls.Book.{Book}
use Rattle.book.specs.declared.calls.Step.{Step}
use Rattle.book.specs.Types.{Outcome}
use Rattle.book.specs.Calls.{fresh_book, applied, go_on, walked, events_of, or_kept, checked_then, take_of}
use Rattle.book.specs.Agreement.{Call, world, after}
use Rattle.book.specs.Verdict.{or_else, verdicts_of, after_check, BookRefusals}
use Rattle.book.proofs.agreement.Events.{Holds, applied-holds}
use Rattle.book.proofs.agreement.Calls.{started-holds, after_holds}
use Rattle.book.proofs.verdict.Once.{prices-exactly}
use Rattle.book.proofs.verdict.Start.{start-takes, start-refuses, start-names, twos-is}
use Rattle.book.proofs.verdict.Answers.{event-verdict}
use Rattle.book.proofs.verdict.First.{first-is}
use Rattle.book.proofs.verdict.Bytes.{AllWide, events-wide}
use Rattle.std.specs.Prelude.{Ok, Err}

walked-verdict : (new : List Event) (b : Book) (es : List Event) → Holds b es → AllWide new
    → (walked b new).answer ≡ verdicts_of es new
walked-verdict [] b es h w = refl
walked-verdict (e ∷ new) b es h w =
    rw (← (event-verdict b es h e w.0))
    (go (λ k. walked-verdict new (applied b e).book (es ++ (e ∷ [])) (applied-holds b es e h k) w.1)
    (applied b e).answer refl)
  where
    go : ((applied b e).answer ≡ (Ok tt) → (walked (applied b e).book new).answer ≡ verdicts_of (es ++ (e ∷ [])) new)
        → (a : Outcome) → (applied b e).answer ≡ a
        → (go_on a (applied b e) (walked (applied b e).book new)).answer ≡ or_else a (verdicts_of (es ++ (e ∷ [])) new)
    go rest (Ok tt) q = rest q
    go rest (Err r) q = q

kept-answer : (b : Book) (s : Step) (a : Outcome) → s.answer ≡ a → (or_kept b a s).answer ≡ s.answer
kept-answer b s (Ok tt) e = refl
kept-answer b s (Err r) e = sym e

take-verdict : (b : Book) (es : List Event) → Holds b es → (tid : ℕ) (content : List ℕ)
    → AllWide (events_of b.code tid content)
    → (take_of b tid content).answer
    ≡ after_check (content_check tid Down content most_content) (verdicts_of es (events_of b.code tid content))
unfolding take_of
take-verdict b es h tid content w = go (content_check tid Down content most_content)
  where
    go : (k : Checked)
        → (checked_then k b
        (or_kept b (walked b (events_of b.code tid content)).answer (walked b (events_of b.code tid content)))
        ).answer
        ≡ after_check k (verdicts_of es (events_of b.code tid content))
    go (Ok tt) =
        kept-answer b (walked b (events_of b.code tid content)) (walked b (events_of b.code tid content)).answer refl
        ∙ walked-verdict (events_of b.code tid content) b es h w
    go (Err r) = refl

module _ (calls : List Call) where
  holds_then : Holds (after (world fresh_book []) calls).book (after (world fresh_book []) calls).taken
  holds_then = after_holds calls (world fresh_book []) (started-holds _)

pub book-refusals : BookRefusals
book-refusals = record {
  start = start-takes;
  no_code = start-refuses;
  named = start-names;
  increment = twos-is;
  prices = prices-exactly;
  event = λ calls e w.
      event-verdict (after (world fresh_book []) calls).book (after (world fresh_book []) calls).taken (holds_then calls) e w;
  first = λ es new r. first-is r es new;
  message = λ calls tid content b.
      take-verdict (after (world fresh_book []) calls).book (after (world fresh_book []) calls).taken (holds_then calls) tid
      content
      (events-wide (after (world fresh_book []) calls).book.code tid content b);
}
