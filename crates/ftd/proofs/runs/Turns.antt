-- Whether a run is ended, and a byte of an entry, over plain variables. Assumes nothing.
use Prim.Native.Nat.{ℕ, ◌+◌, ◌-◌, ◌<◌, ◌≤◌}
use mathlib.Core.Path.{◌≡◌, refl}
use mathlib.Core.List.{List}
use mathlib.Core.Bool.{Bool, true, false, ◌&&◌}
use native.Mathlib.Omega.{arith}
use borrow.Author.Tests.{eq-eqb, ne_eqb}
use lib.ListN.{length, get_or, take, drop, length-drop}
use lib.Seq.{get_or-drop, get_or-take}
use lib.Dec.{eqb}

pub and-false : (b : Bool) → (b && false) ≡ false
and-false true = refl
and-false false = refl

-- Whether a run that is over at a place is ended: the place is the end of the bytes.
pub not-ended : (l : List ℕ) (at : ℕ) → at < length l → eqb (length (drop at l)) 0 ≡ false
not-ended l at h = rw length-drop (ne_eqb (length l - at) 0 (λ z. omega arith))

pub is-ended : (l : List ℕ) (at : ℕ) → length l ≤ at → eqb (length (drop at l)) 0 ≡ true
is-ended l at h = rw length-drop (eq-eqb (length l - at) 0 (omega arith))

-- Byte i of the entry of n bytes at a place.
pub entry-byte : (l : List ℕ) (at n i : ℕ) → i < n → get_or (take n (drop at l)) i 0 ≡ get_or l (at + i) 0
entry-byte l at n i h = rw (get_or-take {A = ℕ} n (drop at l) i 0 h, get_or-drop)
