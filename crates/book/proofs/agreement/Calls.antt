-- It holds after every list of calls. Assumes nothing.
use Prim.Native.Nat.{ℕ, zero, suc}
use mathlib.Core.Path.{◌≡◌, refl, sym, ap, ◌∙◌}
use mathlib.Core.List.{List, [], ◌∷◌, ◌++◌, append-nil, append_assoc}
use mathlib.Core.Bool.{Bool, true, false, cond, ◌&&◌, false≢true}
use lib.ListN.{replicate}
use lib.IntN.{ℤ, pos}
use Rattle.ftd.specs.Fields.{most_content}
use Rattle.ftd.specs.Content.{content_check}
use Rattle.ftd.specs.declared.composition.Direction.TheVariants.{Down}
use Rattle.ftd.specs.Types.{Checked}
use Rattle.book.specs.declared.levels.Level.{Level}
use Rattle.book.specs.declared.event.Event.{Event}
use Rattle.book.specs.declared.calls.Book.{Book}
use Rattle.book.specs.declared.calls.Step.{Step}
use Rattle.book.specs.Types.{Outcome}
use Rattle.book.specs.Levels.{empty, same_price, no_levels}
use Rattle.book.specs.Sums.{beyond}
use Rattle.book.specs.Calls.{is_code, started, start_of, applied, go_on, walked, events_of, or_kept}
use Rattle.book.specs.Calls.{take_of}
use Rattle.book.specs.Agreement.{Call, start, take, World, list_after, made, after}
use Rattle.book.proofs.agreement.Ranked.{Behind, Ranked, look}
use Rattle.book.proofs.agreement.Events.{SideHolds, Holds, applied-holds, not_done}
use Rattle.std.specs.Prelude.{Ok, Err}

-- ─── Started ───

none-behind : (s : Bool) (x : Level) (n : ℕ) → Behind s x (replicate n empty)
none-behind s x zero = tt
none-behind s x (suc n) = ((λ u. absurd (false≢true u)), none-behind s x n)

none-ranked : (s : Bool) (n : ℕ) → Ranked s (replicate n empty)
none-ranked s zero = tt
none-ranked s (suc n) = (none-behind s empty n, none-ranked s n)

none-there : (p : ℤ) (n : ℕ) → look p (replicate n empty) ≡ 0
none-there p zero = refl
none-there p (suc n) = go (same_price (pos 0) p) (none-there p n)
  where
    go : (t : Bool) → look p (replicate n empty) ≡ 0 → cond (t && false) 0 (look p (replicate n empty)) ≡ 0
    go true e = e
    go false e = e

side-fresh : (s : Bool) → SideHolds s no_levels []
side-fresh s = record {
  places = refl;
  ranked = none-ranked s 64;
  quantities = λ p. ap pos (sym (none-there p 64));
}

pub started-holds : (code : List ℕ) → Holds (started code) []
unfolding beyond
started-holds code = record {
  buying = side-fresh true;
  selling = side-fresh false;
  turnover = refl;
  volume = refl;
  turnover_within = refl;
  volume_within = refl;
}

-- ─── Taken ───

pub walked-holds : (new : List Event) (b : Book) (es : List Event) → Holds b es → (walked b new).answer ≡ (Ok tt)
    → Holds (walked b new).book (es ++ new)
walked-holds [] b es h a = rw (append-nil es) h
walked-holds (e ∷ new) b es h a =
    go (walked-holds new (applied b e).book (es ++ (e ∷ []))) (applied b e).answer refl a
  where
    go : (Holds (applied b e).book (es ++ (e ∷ [])) → (walked (applied b e).book new).answer ≡ (Ok tt)
        → Holds (walked (applied b e).book new).book ((es ++ (e ∷ [])) ++ new))
        → (w : Outcome) → (applied b e).answer ≡ w
        → (go_on w (applied b e) (walked (applied b e).book new)).answer ≡ (Ok tt)
        → Holds (go_on (applied b e).answer (applied b e) (walked (applied b e).book new)).book (es ++ (e ∷ new))
    go rest (Ok tt) f q = rw f (rw append_assoc at (rest (applied-holds b es e h f) q))
    go rest (Err r) f q = absurd (not_done r (sym f ∙ q))

module _ (w : World) (h : Holds w.book w.taken) where
  start-holds : (code : List ℕ) → Holds (made w (start code)).book (made w (start code)).taken
  unfolding made start_of
  start-holds code = go (is_code code) refl
    where
      go : (t : Bool) → is_code code ≡ t → Holds (made w (start code)).book (made w (start code)).taken
      go true e = rw e (started-holds code)
      go false e = rw e h

  kept : (s : Step) (new : List Event) (a : Outcome) → s.answer ≡ a → (s.answer ≡ (Ok tt) → Holds s.book new)
      → Holds (or_kept w.book a s).book (list_after (or_kept w.book a s).answer new w.taken)
  kept s new (Ok tt) e f = rw e (f e)
  kept s new (Err r) e f = h

  take-holds : (tid : ℕ) (content : List ℕ)
      → Holds (made w (take tid content)).book (made w (take tid content)).taken
  unfolding made take_of
  take-holds tid content = go (content_check tid Down content most_content) refl
    where
      go : (k : Checked) → content_check tid Down content most_content ≡ k
          → Holds (made w (take tid content)).book (made w (take tid content)).taken
      go (Ok tt) e =
          rw e
          (kept (walked w.book (events_of w.book.code tid content)) (w.taken ++ events_of w.book.code tid content)
          (walked w.book (events_of w.book.code tid content)).answer refl
          (walked-holds (events_of w.book.code tid content) w.book w.taken h))
      go (Err r) e = rw e h

  pub made_holds : (c : Call) → Holds (made w c).book (made w c).taken
  made_holds (start code) = start-holds code
  made_holds (take tid content) = take-holds tid content

pub after_holds : (calls : List Call) (w : World) → Holds w.book w.taken
    → Holds (after w calls).book (after w calls).taken
after_holds [] w h = h
after_holds (c ∷ cs) w h = after_holds cs (made w c) (made_holds w h c)
