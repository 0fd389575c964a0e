use borrow.Author.Rules.{rules}
use Rattle.book.proofs.quantity.Increments.{new-absolute, new-more, new-less}
use Rattle.book.proofs.quantity.new_quantity.Goals as goal

pub returns-then-absolute : goal.returns-then-absolute
returns-then-absolute c = search (rules, new-absolute)

pub returns-then-volume-lt2147483648 : goal.returns-then-volume-lt2147483648
returns-then-volume-lt2147483648 c = search (rules, new-more)

pub returns-else-volume-lt2147483648 : goal.returns-else-volume-lt2147483648
returns-else-volume-lt2147483648 c = search (rules, new-less)
