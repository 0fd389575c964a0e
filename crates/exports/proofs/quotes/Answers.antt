-- What Level and Mean answer as numbers, case by case. Assumes nothing.
use Prim.Native.Nat.{ℕ}
use mathlib.Core.Path.{◌≡◌}
use mathlib.Core.Bool.{Bool}
use lib.IntN.{ℤ, pos}
use Rattle.book.specs.Calls.{level_of, book_mean}
use Rattle.book.specs.declared.calls.Book.{Book}
use Rattle.book.specs.Types.{Mean}
use Rattle.exports.specs.declared.quotes.FtdBook.{FtdBook}
use Rattle.exports.specs.Quotes.{book_for, buying_for, level_numbers, mean_numbers}
use Rattle.std.specs.Prelude.{Some, None}
use Rattle.book.specs.Types.{MaybeLevel, some_level}

module _ (n : FtdBook) (b : Book) (e : b ≡ book_for n) where
  module _ (side place : ℕ) (buying : Bool) (f : buying ≡ buying_for side) (l : MaybeLevel)
      (g : l ≡ level_of b buying place) where
    pub level-none : l ≡ None
        → record { price = pos 0; quantity = 0; found = 0 } ≡ level_numbers (level_of (book_for n) (buying_for side) place)
    level-none h = rw (← e, ← f, ← g, h)

    pub level-at : (p q : ℤ) (k : ℕ) → l ≡ some_level p k → q ≡ p
        → record { price = q; quantity = k; found = 1 } ≡ level_numbers (level_of (book_for n) (buying_for side) place)
    level-at p q k h i = rw (← e, ← f, ← g, h, i)

  module _ (m : Mean) (g : m ≡ book_mean b) where
    pub mean-none : m ≡ None → record { price = pos 0; found = 0 } ≡ mean_numbers (book_mean (book_for n))
    mean-none h = rw (← e, ← g, h)

    pub mean-is : (p q : ℤ) → m ≡ Some p → q ≡ p
        → record { price = q; found = 1 } ≡ mean_numbers (book_mean (book_for n))
    mean-is p q h i = rw (← e, ← g, h, i)
