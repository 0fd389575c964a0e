-- What holds of a book as numbers: nothing of it is lost between two calls, and nothing of an answer.
use Rattle.std.specs.Prelude.{ℕ, ◌≡◌, List, Bool}
use Rattle.book.specs.Calls.{fresh_book, start_of, take_of}
use Rattle.book.specs.Event.{faced}
use Rattle.book.specs.declared.calls.Book.{Book}
use Rattle.book.specs.declared.event.Event.TheVariants.{Quotation}
use Rattle.book.specs.declared.levels.Level.{Level}
use Rattle.book.specs.Types.{Mean}
use Rattle.exports.specs.declared.quotes.FtdBook.{FtdBook}
use Rattle.exports.specs.Quotes.{book_for, book_numbers, step_numbers, buying_for, level_numbers, mean_numbers}
use Rattle.book.specs.Types.{MaybeLevel}

-- Numbers that are a book: they say it.
abbrev pub BookIs : FtdBook → Book → Type 0
BookIs n b = book_for n ≡ b

pub record BookNumberLaws : Type 0 where
  -- The numbers of a book say that book.
  pub back : (b : Book) → BookIs (book_numbers b) b
  -- So calls one behind the other, each given the numbers that the last one left, are the calls of `book` one behind
  -- the other.
  pub fresh : BookIs (book_numbers fresh_book) fresh_book
  pub start : (n : FtdBook) (b : Book) → BookIs n b → (code : List ℕ)
      → BookIs (step_numbers (start_of (book_for n) code)).book (start_of b code).book
  pub take : (n : FtdBook) (b : Book) → BookIs n b → (tid : ℕ) (content : List ℕ)
      → BookIs (step_numbers (take_of (book_for n) tid content)).book (take_of b tid content).book
  -- Who asks for a level with the byte of a quotation's Direction gets the side of that quotation.
  pub side : (absolute buying : Bool) (direction : ℕ) (o : Level)
      → faced absolute direction o ≡ Quotation absolute buying o → buying_for direction ≡ buying
  -- The numbers of a level or a mean are of no other answer.
  pub level : (x y : MaybeLevel) → level_numbers x ≡ level_numbers y → x ≡ y
  pub mean : (x y : Mean) → mean_numbers x ≡ mean_numbers y → x ≡ y
