-- What the mean is (request No. 9), without a word of how it is computed.
use Rattle.std.specs.Prelude.{ℕ, ◌*◌, ◌%◌, ◌<◌, ◌≤◌, ◌≡◌, List, [], ◌∷◌, true, false, ℤ, pos, neg_ℤ, nat_abs, ◌-ℤ◌, ◌*ℤ◌}
use Rattle.std.specs.Int.Signed.{lt_z, le_z}
use Rattle.book.specs.Types.{Mean}
use Rattle.book.specs.declared.event.Event.{Event}
use Rattle.book.specs.declared.event.Event.TheVariants.{Nothing, Quotation, Match}
use Rattle.book.specs.Sums.{mean_of}
use Rattle.book.specs.Agreement.{turnover_of, volume_of}
use Rattle.std.specs.Prelude.{Some, None}

-- The distance of a mean from the sum over the volume, times the volume.
abbrev pub off : ℤ → ℕ → ℤ → ℕ
off sum volume m = nat_abs (m *ℤ pos volume -ℤ sum)

-- A whole number of units nearest to the quotient: at most half a unit off, and where it is just that, even.
pub record Nearest (sum : ℤ) (volume : ℕ) (m : ℤ) : Type 0 where
  pub near : 2 * off sum volume m ≤ volume
  pub even : 2 * off sum volume m ≡ volume → nat_abs m % 2 ≡ 0

-- The other sign.
abbrev pub turned : Mean → Mean
turned None = None
turned (Some m) = Some (neg_ℤ m)

-- Every match of a list is at a price from the least to the greatest.
abbrev pub Priced : ℤ → ℤ → List Event → Type 0
Priced least greatest [] = Unit
Priced least greatest (Nothing ∷ es) = Priced least greatest es
Priced least greatest (Quotation absolute buying o ∷ es) = Priced least greatest es
Priced least greatest (Match o ∷ es) =
    (le_z least o.price ≡ true) × (le_z o.price greatest ≡ true) × Priced least greatest es

pub record MeanLaws : Type 0 where
  -- No mean without volume, and one with it.
  pub none : (sum volume : ℤ) → lt_z (pos 0) volume ≡ false → mean_of sum volume ≡ None
  pub some : (sum : ℤ) (volume : ℕ) → 0 < volume → (m : ℤ) × (mean_of sum (pos volume) ≡ Some m) × Nearest sum volume m
  -- There is no other nearest one.
  pub only : (sum : ℤ) (volume : ℕ) (m : ℤ) → 0 < volume → Nearest sum volume m → mean_of sum (pos volume) ≡ Some m
  -- No sign is favoured.
  pub signs : (sum volume : ℤ) → mean_of (neg_ℤ sum) volume ≡ turned (mean_of sum volume)
  -- It lies between two prices where the quotient does.
  pub between : (sum : ℤ) (volume : ℕ) (m least greatest : ℤ) → mean_of sum (pos volume) ≡ Some m
      → le_z (least *ℤ pos volume) sum ≡ true
      → le_z sum (greatest *ℤ pos volume) ≡ true
      → (le_z least m ≡ true) × (le_z m greatest ≡ true)
  -- So over every list of events it lies between the least and the greatest price matched.
  pub prices : (es : List Event) (m least greatest : ℤ) → mean_of (turnover_of es) (volume_of es) ≡ Some m
      → Priced least greatest es
      → (le_z least m ≡ true) × (le_z m greatest ≡ true)
