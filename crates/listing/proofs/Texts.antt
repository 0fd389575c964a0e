-- Texts in a buffer, one behind the other. Assumes nothing.
use Prim.Native.Nat.{ℕ, ◌≤◌}
use mathlib.Core.Path.{◌≡◌, sym, ◌∙◌}
use mathlib.Core.List.{List, [], ◌++◌, append-nil}
use native.Mathlib.Omega.{arith}
use native.Mathlib.Nat.{add-zero}
use lib.ListN.{length, length-append, take-append-drop}
use Rattle.ftd.specs.Bytes.{put}
use Rattle.ftd.proofs.bytes.Put.{put-put}
use Rattle.listing.specs.Text.{WroteText}

-- No text changes nothing.
pub put-none : (l : List ℕ) (at : ℕ) → l ≡ put l at []
unfolding put
put-none l at = rw (append-nil, add-zero) (sym (take-append-drop at l))

-- A text and the text right behind it are one.
pub wrote-both : {l vs ws o₁ o₂ : List ℕ} {at e₁ e₂ : ℕ} → at ≤ length l → WroteText l at vs o₁ e₁
    → WroteText o₁ e₁ ws o₂ e₂
    → WroteText l at (vs ++ ws) o₂ e₂
wrote-both {l} {vs} {ws} {o₁} {o₂} {at} {e₁} {e₂} h a b =
    record {
      bytes = b.bytes ∙ rw (a.bytes, a.place) (put-put l at vs ws h);
      place = rw length-append (omega arith);
    }
