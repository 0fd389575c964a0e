use Rattle.exports.proofs.items.numbers.Goals as goal

pub returns-in-NoItem : goal.returns-in-NoItem
returns-in-NoItem c = rw c.in-NoItem.is c.valued.ensures

pub returns-in-NoValue : goal.returns-in-NoValue
returns-in-NoValue c = rw c.in-NoValue.is c.valued-in-NoValue.ensures

pub returns-in-Char : goal.returns-in-Char
returns-in-Char c = rw (c.in-Char.is, ← c.wide8.ensures) c.valued-in-Char.ensures

pub returns-in-Word : goal.returns-in-Word
returns-in-Word c = rw (c.in-Word.is, ← c.wide16.ensures) c.valued-in-Word.ensures

pub returns-in-Int : goal.returns-in-Int
returns-in-Int c = rw (c.in-Int.is, ← c.wide32.ensures) c.valued-in-Int.ensures

pub returns-in-Text : goal.returns-in-Text
returns-in-Text c = rw c.in-Text.is c.text.ensures

pub returns-in-Number : goal.returns-in-Number
returns-in-Number c = rw (c.in-Number.is, ← c.flag_of.ensures) c.valued-in-Number.ensures

pub returns-in-Float : goal.returns-in-Float
returns-in-Float c = rw (c.in-Float.is, ← c.flag_of-in-Float.ensures) c.valued-in-Float.ensures
