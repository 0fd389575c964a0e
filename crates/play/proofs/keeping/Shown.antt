-- What a call of the named places shows, as the definitions mean it, over plain variables. Assumes nothing.
use Prim.Native.Nat.{ℕ}
use mathlib.Core.Path.{◌≡◌}
use mathlib.Core.List.{List}
use Rattle.flow.specs.declared.checkpoint.Checkpoints.{Checkpoints}
use Rattle.flow.specs.Types.{Saved}
use Rattle.flow.specs.Types.{Restored}
use Rattle.listing.specs.Text.{WroteText}
use Rattle.play.specs.declared.player.Player.{Player}
use Rattle.play.specs.declared.player.Played.{Played}
use Rattle.play.specs.Words.{name_in}
use Rattle.play.specs.Lines.{saved_line, restored_line}
use Rattle.play.specs.Played.{with_checkpoints, ShowsKeep, ShowsReturn}

pub checkpoints-are : (p pl : Player) (c m : Checkpoints) → pl ≡ with_checkpoints p c → c ≡ m → pl ≡ with_checkpoints p m
checkpoints-are p pl c m q f = rw (← f) q

module _ {l t : List ℕ} {to : ℕ} where
  pub saved-is : (a m : Saved) → a ≡ m → WroteText l 0 (saved_line a) t to → WroteText l 0 (saved_line m) t to
  saved-is a m e q = rw (← e) q

  pub restored-is : (a m : Restored) → a ≡ m → WroteText l 0 (restored_line a) t to → WroteText l 0 (restored_line m) t to
  restored-is a m e q = rw (← e) q

-- ─── The call of a line ───

module _ (p : Player) (r : Played) (t t' word said : List ℕ) (e : word ≡ said) (name : List ℕ)
    (f : name ≡ name_in word) where
  pub keep-played : ShowsKeep p name r t t' → ShowsKeep p (name_in said) r t t'
  keep-played h = rw (f, e) at h

  pub return-played : ShowsReturn p name r t t' → ShowsReturn p (name_in said) r t t'
  return-played h = rw (f, e) at h
