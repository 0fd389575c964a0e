use borrow.Author.Rules.{rules}
use Rattle.ftd.proofs.item.Readings.{word-given, word_none, int-given, int-none, text-none, text-given}
use Rattle.ftd.proofs.item.Readings.{number-none, number-given, float-none, float-given, date-none, date-given}
use Rattle.ftd.proofs.item.Readings.{char-long, char-given, char-none}
use Rattle.ftd.proofs.item.typed_item.Goals as goal

pub returns-then-s-ne2 : goal.returns-then-s-ne2
returns-then-s-ne2 c = search (rules, word_none)

pub returns-else-s-ne2 : goal.returns-else-s-ne2
returns-else-s-ne2 c = search (rules, word-given)

pub returns-then-s-ne4 : goal.returns-then-s-ne4
returns-then-s-ne4 c = search (rules, int-none)

pub returns-else-s-ne4 : goal.returns-else-s-ne4
returns-else-s-ne4 c = search (rules, int-given)

pub returns-in-None : goal.returns-in-None
returns-in-None c = search (rules, text-none)

pub returns-in-Some : goal.returns-in-Some
returns-in-Some c = search (rules, text-given)

pub returns-in-None-read_number : goal.returns-in-None-read_number
returns-in-None-read_number c = search (rules, number-none)

pub returns-in-Some-read_number : goal.returns-in-Some-read_number
returns-in-Some-read_number c = search (rules, number-given)

pub returns-in-None-read_float : goal.returns-in-None-read_float
returns-in-None-read_float c = search (rules, float-none)

pub returns-in-Some-read_float : goal.returns-in-Some-read_float
returns-in-Some-read_float c = search (rules, float-given)

pub returns-in-NoDate : goal.returns-in-NoDate
returns-in-NoDate c = search (rules, date-none)

pub returns-in_default-read_date : goal.returns-in_default-read_date
returns-in_default-read_date c = search (rules, date-given)

pub returns-then-s-ne1 : goal.returns-then-s-ne1
returns-then-s-ne1 c = search (rules, char-long, char-none)

pub returns-else-not-char_fits : goal.returns-else-not-char_fits
returns-else-not-char_fits c = search (rules, char-given)
