-- `BookNumberLaws` holds. Assumes nothing.
use Prim.Native.Nat.{ℕ}
use native.Mathlib.Omega.{arith}
use mathlib.Core.Path.{◌≡◌, refl, ap}
use mathlib.Core.List.{List}
use mathlib.Core.Bool.{Bool, true, false, cond}
use lib.Dec.{eqb}
use Rattle.book.specs.Calls.{start_of, take_of}
use Rattle.book.specs.Event.{faced}
use Rattle.book.specs.declared.calls.Book.{Book}
use Rattle.book.specs.declared.event.Event.{Event}
use Rattle.book.specs.declared.event.Event.TheVariants.{Nothing, Quotation, Match}
use Rattle.book.specs.declared.levels.Level.{Level}
use Rattle.book.specs.Types.{Mean}
use Rattle.exports.specs.declared.quotes.FtdBook.{FtdBook}
use Rattle.exports.specs.declared.quotes.FtdListed.{FtdListed}
use Rattle.exports.specs.declared.quotes.FtdMean.{FtdMean}
use Rattle.exports.specs.Quotes.{book_for, step_numbers, buying_for, level_numbers, mean_numbers}
use Rattle.exports.specs.Quotes.Laws.{BookIs, BookNumberLaws}
use Rattle.std.specs.Prelude.{Some, None}
use Rattle.book.specs.Types.{MaybeLevel}

-- Numbers that are a book: what a call makes of the book that they say, it makes of that book.
start : (n : FtdBook) (b : Book) → BookIs n b → (code : List ℕ)
    → BookIs (step_numbers (start_of (book_for n) code)).book (start_of b code).book
start n b h code = ap (λ (x : Book). (start_of x code).book) h

take : (n : FtdBook) (b : Book) → BookIs n b → (tid : ℕ) (content : List ℕ)
    → BookIs (step_numbers (take_of (book_for n) tid content)).book (take_of b tid content).book
take n b h tid content = ap (λ (x : Book). (take_of x tid content).book) h

-- The side of a quotation.
abbrev is_buying : Event → Bool
is_buying Nothing = false
is_buying (Quotation absolute buying o) = buying
is_buying (Match o) = false

side : (absolute buying : Bool) (direction : ℕ) (o : Level)
    → faced absolute direction o ≡ Quotation absolute buying o → buying_for direction ≡ buying
unfolding faced
side absolute buying direction o = go (eqb direction 0) (eqb direction 1)
  where
    go : (a b : Bool) → cond a (Quotation absolute true o) (cond b (Quotation absolute false o) Nothing)
        ≡ Quotation absolute buying o
        → a ≡ buying
    go true b e = ap is_buying e
    go false true e = ap is_buying e
    go false false e = cc

level : (x y : MaybeLevel) → level_numbers x ≡ level_numbers y → x ≡ y
level None None e = refl
level None (Some found) e = let z : ◌≡◌ {A = ℕ} 0 1 = ap (λ (l : FtdListed). l.found) e in absurd (omega arith)
level (Some found) None e = let z : ◌≡◌ {A = ℕ} 1 0 = ap (λ (l : FtdListed). l.found) e in absurd (omega arith)
level (Some found) (Some found1) e =
    let price : found.price ≡ found1.price = ap (λ (l : FtdListed). l.price) e in
    let quantity : found.quantity ≡ found1.quantity = ap (λ (l : FtdListed). l.quantity) e in
    rw (price, quantity) refl

mean : (x y : Mean) → mean_numbers x ≡ mean_numbers y → x ≡ y
mean None None e = refl
mean None (Some p) e = let z : ◌≡◌ {A = ℕ} 0 1 = ap (λ (m : FtdMean). m.found) e in absurd (omega arith)
mean (Some p) None e = let z : ◌≡◌ {A = ℕ} 1 0 = ap (λ (m : FtdMean). m.found) e in absurd (omega arith)
mean (Some p) (Some q) e = let price : p ≡ q = ap (λ (m : FtdMean). m.price) e in rw price refl

pub book-number-laws : BookNumberLaws
book-number-laws =
    record { back = λ b. refl; fresh = refl; start = start; take = take; side = side; level = level; mean = mean }
