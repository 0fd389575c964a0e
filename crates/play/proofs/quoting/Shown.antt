-- What a call of the book shows, as the definitions mean it, over plain variables. Assumes nothing.
use Prim.Native.Nat.{ℕ}
use mathlib.Core.Path.{◌≡◌}
use mathlib.Core.List.{List}
use Rattle.book.specs.declared.calls.Step.{Step}
use Rattle.book.specs.Types.{Mean}
use Rattle.listing.specs.Text.{WroteText}
use Rattle.play.specs.declared.player.Player.{Player}
use Rattle.play.specs.declared.player.Played.{Played}
use Rattle.play.specs.Lines.{outcome_line, level_line, mean_line}
use Rattle.play.specs.Played.{with_book, ShowsStart, ShowsTake}
use Rattle.book.specs.Types.{MaybeLevel}

pub book-is : (p pl : Player) (s m : Step) → pl ≡ with_book p s.book → s ≡ m → pl ≡ with_book p m.book
book-is p pl s m q f = rw (← f) q

module _ {l t : List ℕ} {to : ℕ} where
  pub outcome-is : (w : List ℕ) (s m : Step) → s ≡ m → WroteText l 0 (outcome_line w s.answer) t to
      → WroteText l 0 (outcome_line w m.answer) t to
  outcome-is w s m e q = rw (← e) q

  pub level-is : (a m : MaybeLevel) → a ≡ m → WroteText l 0 (level_line a) t to → WroteText l 0 (level_line m) t to
  level-is a m e q = rw (← e) q

  pub mean-is : (a m : Mean) → a ≡ m → WroteText l 0 (mean_line a) t to → WroteText l 0 (mean_line m) t to
  mean-is a m e q = rw (← e) q

-- ─── The call of a line ───

module _ (p : Player) (r : Played) (t t' : List ℕ) where
  pub start-played : (code said : List ℕ) → ShowsStart p code r t t' → code ≡ said → ShowsStart p said r t t'
  start-played code said h e = rw e at h

  pub take-played : (tid : ℕ) (content said : List ℕ) → ShowsTake p tid content r t t' → content ≡ said
      → ShowsTake p tid said r t t'
  take-played tid content said h e = rw e at h
