use Rattle.ftd.proofs.item.of_kind.Goals as goal

pub returns-in-Word : goal.returns-in-Word
returns-in-Word c = simp c.in-Word.is

pub returns-in-Int : goal.returns-in-Int
returns-in-Int c = simp c.in-Int.is

pub returns-in-Text : goal.returns-in-Text
returns-in-Text c = simp c.in-Text.is

pub returns-in-Number : goal.returns-in-Number
returns-in-Number c = simp c.in-Number.is

pub returns-in-Float : goal.returns-in-Float
returns-in-Float c = simp c.in-Float.is

pub returns-in-Date : goal.returns-in-Date
returns-in-Date c = simp c.in-Date.is
