-- The book of a contract as the numbers that C and Rust get and give (include/ftd.h): its state, and what each call
-- answers.
pub mod Laws
use Rattle.std.specs.Prelude.{ℕ, Bool, eqb, pos}
use Rattle.exports.specs.Numbers.{refusal_of}
use Rattle.book.specs.declared.calls.Book.{Book}
use Rattle.book.specs.Types.{Outcome}
use Rattle.book.specs.declared.calls.Step.{Step}
use Rattle.book.specs.Types.{Mean}
use Rattle.exports.specs.declared.quotes.FtdBook.{FtdBook}
use Rattle.exports.specs.declared.quotes.FtdBookStep.{FtdBookStep}
use Rattle.exports.specs.declared.quotes.FtdListed.{FtdListed}
use Rattle.exports.specs.declared.quotes.FtdMean.{FtdMean}
use Rattle.std.specs.Prelude.{Some, None}
use Rattle.book.specs.Types.{MaybeLevel}

-- The book that numbers say, and the numbers of a book.
abbrev pub book_for : FtdBook → Book
book_for n = record {
  code = n.code;
  buying = record { levels = n.buying };
  selling = record { levels = n.selling };
  sums = record { turnover = n.turnover; volume = n.volume };
}

abbrev pub book_numbers : Book → FtdBook
book_numbers b = record {
  code = b.code;
  buying = b.buying.levels;
  selling = b.selling.levels;
  turnover = b.sums.turnover;
  volume = b.sums.volume;
}

-- Start and Take: 0, or the number of the refusal.
abbrev pub outcome_number : Outcome → ℕ
outcome_number x = refusal_of x

-- What they leave.
abbrev pub step_numbers : Step → FtdBookStep
step_numbers x = record { book = book_numbers x.book; refusal = outcome_number x.answer }

-- A side, by the numbers of the item Direction: 0 is buying, any other number selling.
abbrev pub buying_for : ℕ → Bool
buying_for n = eqb n 0

-- A level: 1, its price and its quantity, or none, all 0.
abbrev pub level_numbers : MaybeLevel → FtdListed
level_numbers None = record { price = pos 0; quantity = 0; found = 0 }
level_numbers (Some found1) = record { price = found1.price; quantity = found1.quantity; found = 1 }

-- The mean match price: 1 and the price, or none, 0 and 0.
abbrev pub mean_numbers : Mean → FtdMean
mean_numbers None = record { price = pos 0; found = 0 }
mean_numbers (Some p) = record { price = p; found = 1 }
